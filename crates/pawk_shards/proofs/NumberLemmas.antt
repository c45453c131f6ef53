-- Records of which the numbers are others.
use Rattle.std.proofs.Common.{◌≡◌, ℕ, ◌+◌, List, [], ◌∷◌, ◌++◌, Option, None, length, append_assoc, refl, ap, sym, ◌∙◌, subst}
use Rattle.std.specs.Prelude.{flat_map}
use Rattle.pawk_records.specs.Records.{records_by}
use Rattle.pawk_input.specs.Input.{File, Item, file_items, items_from, items}
use Rattle.pawk_world.specs.Worlds.{Calls}
use Rattle.pawk_store.specs.Globals.{calls}
use Rattle.pawk_frozen.specs.Frozens.{blank_world}
use Rattle.pawk_frozen.specs.Frozens as frozen
use Rattle.pawk_store.specs.Records.{Left, through, next_file, exit, fault, clash, End, run_part, one_record}
use Rattle.pawk_store.specs.Runs.{after_leaving, records_from}
use Rattle.pawk_store.specs.Laws.{RefusalsAreFinal, LeftBy}
use Rattle.pawk_store.specs.Steady.{StaysInFile, RecordsKeepLaw}
use Rattle.pawk_commute.specs.Settings.{PermitsFor}
use Rattle.pawk_commute.specs.Traces.{traced}
use Rattle.pawk_commute.proofs.OrderLemmas.{store_final, chunk_final}
use Rattle.pawk_commute.proofs.TracedLemmas.{plain_final}
use Rattle.pawk_merge_law.specs.Phases.{Phase, MayRun, opening, traced_opening, FaultsOrCreates}
use Rattle.pawk_merge_law.specs.ChunkedRuns.{leavings}
use Rattle.pawk_merge_law.proofs.OpeningLemmas.{steady}
use Rattle.pawk_shards.specs.Numbers.{AreSameButNumbers, EndAlike, ShardFilesLaw}
use Rattle.pawk_shards.proofs.TurnLemmas.{Bad, same_both_ways}

module _ {S : Type 0} where
  -- A record that is run alone, in a way in which no `nextfile` is, is not left by it.
  stays_in : (file : ℕ) (l : Left) (x : End S) → x.left ≡ l → LeftBy StaysInFile (after_leaving (λ s y. y) file l x).left → ¬ (l ≡ next_file)
  stays_in file through x is h k = absurd cc
  stays_in file next_file x is h k = subst (LeftBy StaysInFile) is h
  stays_in file (exit n) x is h k = absurd cc
  stays_in file (fault f) x is h k = absurd cc
  stays_in file clash x is h k = absurd cc

  -- After a record that was not left by `nextfile` the number of its file is of no consequence.
  leaves_alike : (go other : Option ℕ → End S → End S) (file there : ℕ) (l : Left) (x : End S) → (¬ (l ≡ next_file)) → go None x ≡ other None x → after_leaving go file l x ≡ after_leaving other there l x
  leaves_alike go other file there through x stays h = h
  leaves_alike go other file there next_file x stays h = absurd (stays refl)
  leaves_alike go other file there (exit n) x stays h = refl
  leaves_alike go other file there (fault f) x stays h = refl
  leaves_alike go other file there clash x stays h = refl

module _ (p : Phase) (may : MayRun p) where
  module _ {S : Type 0} (any_calls : Calls S) (final : RefusalsAreFinal any_calls) (keep : RecordsKeepLaw (PermitsFor p.code p.roles) any_calls) where
    abbrev run : End S → List Item → End S
    run e some = records_from any_calls p.eres p.code p.budget None e some

    abbrev record_end : Item → End S → End S
    record_end i e = run_part (one_record any_calls p.eres p.code.functions p.code.rules i) p.budget e.world e.state e.output

    record_stays : (i : Item) (e : End S) → ¬ ((record_end i e).left ≡ next_file)
    record_stays i e =
        let k = keep (steady p) final p.eres p.code may.allows p.budget (i ∷ []) (record e { left = through }) refl in
        stays_in i.file (record_end i e).left (record_end i e) refl k.in_file

    -- Other numbers of one record, and of those that follow.
    next_alike : (i : Item) (file nr : ℕ) (is js : List Item) (e : End S) → ((x : End S) → run x is ≡ run x js) → run e (i ∷ is) ≡ run e (record i { file = file; nr = nr } ∷ js)
    next_alike i file nr is js e h =
        leaves_alike (λ s x. records_from any_calls p.eres p.code p.budget s x is) (λ s x. records_from any_calls p.eres p.code p.budget s x js) i.file file
        (record_end i e).left (record_end i e) (record_stays i e) (h (record_end i e))

    runs_alike : (some others : List Item) → AreSameButNumbers some others → (e : End S) → run e some ≡ run e others
    runs_alike [] [] h e = refl
    runs_alike [] (j ∷ js) h e = absurd h
    runs_alike (i ∷ is) [] h e = absurd h
    runs_alike (i ∷ is) (j ∷ js) h e =
        subst (λ x. run e (i ∷ is) ≡ run e (x ∷ js)) (sym h.0) (next_alike i j.file j.nr is js e (λ x. runs_alike is js h.1 x))

  pub end_alike : RecordsKeepLaw (PermitsFor p.code p.roles) calls → RecordsKeepLaw (PermitsFor p.code p.roles) (traced calls) → RecordsKeepLaw (PermitsFor p.code p.roles) frozen.calls → (some others : List Item) → AreSameButNumbers some others → EndAlike p some others
  end_alike keep keep_traced keep_chunk some others h =
      let plain = runs_alike calls plain_final keep some others h (opening p) in
      let with_trace = runs_alike (traced calls) store_final keep_traced some others h (traced_opening p) in
      record {
        ends = plain;
        faults = same_both_ways (FaultsOrCreates p some) (FaultsOrCreates p others) (λ j. Bad p.roles (plain j).left (with_trace j).world.trace);
        apart = λ nr c told. (
          told.0,
          told.1,
          told.2 ∙ ap leavings (runs_alike frozen.calls chunk_final keep_chunk some others h
              (record { world = blank_world p.globals p.roles; state = told.0; output = []; left = through })),
        );
      }

-- ---- records of files

same_append : (is js ks ls : List Item) → AreSameButNumbers is js → AreSameButNumbers ks ls → AreSameButNumbers (is ++ ks) (js ++ ls)
same_append [] [] ks ls h k = k
same_append [] (j ∷ js) ks ls h k = absurd h
same_append (i ∷ is) [] ks ls h k = absurd h
same_append (i ∷ is) (j ∷ js) ks ls h k = (h.0, same_append is js ks ls h.1 k)

same_file : (file there : ℕ) (name : List ℕ) (nr nr' fnr : ℕ) (records : List (List ℕ)) → AreSameButNumbers (file_items file name nr fnr records) (file_items there name nr' fnr records)
same_file file there name nr nr' fnr [] = tt
same_file file there name nr nr' fnr (r ∷ records) = (refl, same_file file there name (nr + 1) (nr' + 1) (fnr + 1) records)

module _ (rs : List ℕ) where
  -- The records of files, and what follows them.
  same_then : (files more : List File) (later : List Item) → ((file nr : ℕ) → AreSameButNumbers later (items_from rs file nr more)) → (file there nr nr' : ℕ) → AreSameButNumbers (items_from rs file nr files ++ later) (items_from rs there nr' (files ++ more))
  same_then [] more later h file there nr nr' = h there nr'
  same_then (f ∷ files) more later h file there nr nr' =
      let all = records_by rs f.bytes in
      let rest = items_from rs (file + 1) (nr + length all) files in
      let other = items_from rs (there + 1) (nr' + length all) (files ++ more) in
      subst (λ is. AreSameButNumbers is (file_items there f.name nr' 0 all ++ other)) (sym (append_assoc (file_items file f.name nr 0 all) rest later))
      (same_append (file_items file f.name nr 0 all) (file_items there f.name nr' 0 all) (rest ++ later) other
      (same_file file there f.name nr nr' 0 all)
      (same_then files more later h (file + 1) (there + 1) (nr + length all) (nr' + length all)))

  same_shards : (shards : List (List File)) (file nr : ℕ) → AreSameButNumbers (flat_map (λ files. items rs files) shards) (items_from rs file nr (flat_map (λ files. files) shards))
  same_shards [] file nr = tt
  same_shards (files ∷ shards) file nr =
      same_then files (flat_map (λ fs. fs) shards) (flat_map (λ fs. items rs fs) shards) (λ there k. same_shards shards there k) 0 file 0 nr

pub shard_files : ShardFilesLaw
shard_files rs shards = same_shards rs shards 0 0
