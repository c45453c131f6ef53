-- Records by number, and the rest of a run, file by file and piece by piece.
use Rattle.std.proofs.Common.{◌≡◌, ℕ, ◌+◌, ◌<◌, Bool, true, false, if◌then◌else◌, List, [], ◌∷◌, ◌++◌, length, Option, Some, None, refl, ap, sym, ◌∙◌, subst, inl, arith, rules, tests}
use Rattle.std.specs.Prelude.{◌==◌, map}
use Rattle.pawk_records.specs.Records.{records_by}
use Rattle.pawk_record.specs.Records.{read}
use Rattle.pawk_world.specs.Halts.{Halt}
use Rattle.pawk_world.specs.Halts as halt
use Rattle.pawk_world.specs.Worlds.{Answer, Calls}
use Rattle.pawk_world.specs.Worlds as world
use Rattle.pawk_store.specs.RecordStates.{is_paragraph, with_item}
use Rattle.pawk_store.specs.Slots.{fs_slot}
use Rattle.pawk_code.specs.Programs.{Code}
use Rattle.pawk_input.specs.Input.{File, Item, file_items, items_from}
use Rattle.pawk_input.proofs.PlanLemmas.{file_items-append}
use Rattle.pawk_store.specs.Parts.{Moment, Outcome, gives, halts}
use Rattle.pawk_store.specs.Places.{text_at}
use Rattle.pawk_store.specs.Records.{Left, through, next_file, exit, fault, clash, End, end_of, run_part, opening_moment, one_record}
use Rattle.pawk_store.specs.Runs.{Finish, after_leaving, records_from, after_records}
use Rattle.pawk_store.specs.Outputs.{with_output_before, finish_with_output_before, OutputIsAppendedLaw, OutputStaysLaw}
use Rattle.pawk_store.specs.Lockstep.{Pair, record_state_of, refusal_of, SameAnswer, AreInLockstep, RefusesIn, GoesOn}
use Rattle.pawk_store.proofs.Later.{Order}
use Rattle.pawk_store.proofs.Going.{Track, goes_bind}
use Rattle.pawk_store.proofs.InRecords.{goes_after_read, goes_rules}
use Rattle.pawk_store.proofs.Everything.{everything, any_code}
use Rattle.pawk_merge_law.specs.Flows.{Pairs, Turn, plain_turn, left_through, after_assignments, KeepsWithout, after_piece, piece_then, rest_in_turns, rest_in_file}

-- ---- assignments

-- An end before which nothing is assigned is itself.
pub unassigned : {S : Type 0} (make : Pairs → S → S) → KeepsWithout make → (e : End S) → after_assignments make [] e ≡ e
unassigned make keeps e = λ j. record e { world = keeps e.world j }

-- ---- numbers of records

-- A number is itself.
itself_test : (n : ℕ) → (n == n) ≡ true
itself_test n = search (rules, tests)

-- A smaller number is another one.
other_test : (a b : ℕ) → b < a → (a == b) ≡ false
other_test a b h = search (rules, tests, h)

-- Where the test holds, the first is taken.
when_true : {X : Type 0} (b : Bool) (x y : X) → b ≡ true → (if b then x else y) ≡ x
when_true true x y h = refl
when_true false x y h = absurd cc

-- Where it does not hold, the second is taken.
when_false : {X : Type 0} (b : Bool) (x y : X) → b ≡ false → (if b then x else y) ≡ y
when_false true x y h = absurd cc
when_false false x y h = refl

module _ {S : Type 0} where
  -- Two runs go on alike after a record where they do after `nextfile` and where none was left.
  after_alike : (go other : Option ℕ → End S → End S) (file there : ℕ) (l : Left) (r : End S) → go None r ≡ other None r → go (Some file) r ≡ other (Some there) r → after_leaving go file l r ≡ after_leaving other there l r
  after_alike go other file there through r h k = h
  after_alike go other file there next_file r h k = k
  after_alike go other file there (exit n) r h k = refl
  after_alike go other file there (fault f) r h k = refl
  after_alike go other file there clash r h k = refl

  -- After a record FNR is n where it is n after those that follow one that was left through, and where the rest of its file is not read.
  after_fnr : (go : Option ℕ → End S → End S) (file n : ℕ) (l : Left) (r : End S) → r.left ≡ l → ((go None r).left ≡ through → (go None r).state.fnr ≡ n) → go (Some file) r ≡ r → (after_leaving go file l r).left ≡ through → (after_leaving go file l r).state.fnr ≡ n
  after_fnr go file n through r is h skips on = h on
  after_fnr go file n next_file r is h skips on = let bad : next_file ≡ through = sym is ∙ sym (ap (λ (e : End S). e.left) skips) ∙ on in absurd cc
  after_fnr go file n (exit k) r is h skips on = let bad : exit k ≡ through = sym is ∙ on in absurd cc
  after_fnr go file n (fault f) r is h skips on = let bad : fault f ≡ through = sym is ∙ on in absurd cc
  after_fnr go file n clash r is h skips on = let bad : clash ≡ through = sym is ∙ on in absurd cc

-- Each halt leaves FNR as it is.
end_fnr : {S X : Type 0} (o : Outcome S X) → (end_of o).state.fnr ≡ (record_state_of o).fnr
end_fnr (gives x m) = refl
end_fnr (halts (halt.fault f) s state out) = refl
end_fnr (halts halt.clash s state out) = refl
end_fnr (halts halt.next s state out) = refl
end_fnr (halts halt.next_file s state out) = refl
end_fnr (halts (halt.exit n) s state out) = refl

-- The order of record states that have the same FNR.
abbrev fnr_order : Order everything
fnr_order = record {
  keeps = λ s t. t.fnr ≡ s.fnr;
  here = λ s. refl;
  then = λ s t u h k. k ∙ h;
  line = λ s r. refl;
  match = λ may s start size. refl;
  ranges = λ may s inside. refl;
}

-- Every refusal is one of those that may be.
refused : {S : Type 0} (r : Option (Halt × S)) → RefusesIn (λ h. true ≡ true) r
refused None = tt
refused (Some r) = refl

-- An answer is the same as itself.
same_answer : {S X : Type 0} (a : Answer S X) → SameAnswer (λ s t. s ≡ t) a a
same_answer (world.gives x s) = (refl, refl)
same_answer (world.halts h s) = (refl, refl)

module _ {S : Type 0} (calls : Calls S) where
  -- The world beside itself, where everything is permitted.
  abbrev with_itself : Pair S S
  with_itself = record {
    first_calls = calls;
    second_calls = calls;
    alike = λ s t. s ≡ t;
    before = λ s t. Unit {0};
    before_second = λ s t. Unit {0};
    permits = everything;
    parts = λ q s t. ⊥;
    ahead = [];
  }

  -- It is in lockstep with itself.
  in_lockstep : AreInLockstep with_itself
  in_lockstep = record {
    look = λ n may s t e. ap (calls.look n) e;
    ask = λ q may s t e. inl (subst (λ u. SameAnswer (λ x y. x ≡ y) (calls.ask q s) (calls.ask q u)) e (same_answer (calls.ask q s)));
  }

  -- It goes on, whatever the program.
  abbrev goes : GoesOn everything (λ (s t : S). Unit {0}) calls
  goes = record {
    here = λ s. tt;
    then = λ s t u h k. tt;
    ask = λ q may s. tt;
    ends = λ h. true;
    at_fault = λ f. refl;
    at_next = refl;
    at_next_file = λ may. refl;
    at_exit = λ n. refl;
    refuses = λ q may s. refused (refusal_of (calls.ask q s));
  }

  -- The two together with the order of FNR.
  abbrev fnr_track : Track S S
  fnr_track = record { pair = with_itself; lockstep = in_lockstep; first = goes; second = goes; order = fnr_order }

module _ {S : Type 0} (calls : Calls S) (eres : List (List ℕ)) (code : Code) (budget : ℕ) where
  abbrev records : Option ℕ → End S → List Item → End S
  records skip e items = records_from calls eres code budget skip e items

  abbrev record_end : Item → End S → End S
  record_end i e = run_part (one_record calls eres code.functions code.rules i) budget e.world e.state e.output

  -- After a record FNR is its number in its file.
  record_fnr : (i : Item) (e : End S) → (record_end i e).state.fnr ≡ i.fnr
  record_fnr i e =
      let may = any_code code in
      let t = fnr_track calls in
      let m : Moment S = opening_moment budget e.world e.state e.output in
      let fs = text_at calls fs_slot m in
      let r = read fs (is_paragraph m.state) i.bytes in
      let l = (goes_bind (goes_after_read {t = t} r.1) (λ _ _. goes_rules {t = t} eres code.functions may.2.1 0 code.rules may.2.2)).first (record m { state = with_item fs i m.state }) tt in
      end_fnr (one_record calls eres code.functions code.rules i m) ∙ l.state

  -- The rest of a file that was left by `nextfile` is not read, and what follows it is.
  skips_to : (file : ℕ) (name : List ℕ) (nr fnr : ℕ) (rs : List (List ℕ)) (more : List Item) (e : End S) → records (Some file) e (file_items file name nr fnr rs ++ more) ≡ records (Some file) e more
  skips_to file name nr fnr [] more e = refl
  skips_to file name nr fnr (r ∷ rs) more e =
      when_true (file == file) (records (Some file) e (file_items file name (nr + 1) (fnr + 1) rs ++ more)) _ (itself_test file)
      ∙ skips_to file name (nr + 1) (fnr + 1) rs more e

  -- The rest of a file that was left by `nextfile` is not read.
  skips_rest : (file : ℕ) (name : List ℕ) (nr fnr : ℕ) (rs : List (List ℕ)) (e : End S) → records (Some file) e (file_items file name nr fnr rs) ≡ e
  skips_rest file name nr fnr [] e = refl
  skips_rest file name nr fnr (r ∷ rs) e =
      when_true (file == file) (records (Some file) e (file_items file name (nr + 1) (fnr + 1) rs)) _ (itself_test file)
      ∙ skips_rest file name (nr + 1) (fnr + 1) rs e

  -- Records of a file end alike, whatever the number of their file and their numbers among all.
  pub alike : (file there : ℕ) (name : List ℕ) (nr nr' fnr : ℕ) (rs : List (List ℕ)) (e : End S) → records None e (file_items file name nr fnr rs) ≡ records None e (file_items there name nr' fnr rs)
  alike file there name nr nr' fnr [] e = refl
  alike file there name nr nr' fnr (r ∷ rs) e =
      let i : Item = record { bytes = r; file = file; name = name; nr = nr + 1; fnr = fnr + 1 } in
      let x = record_end i e in
      after_alike (λ s y. records s y (file_items file name (nr + 1) (fnr + 1) rs)) (λ s y. records s y (file_items there name (nr' + 1) (fnr + 1) rs)) file there x.left x
      (alike file there name (nr + 1) (nr' + 1) (fnr + 1) rs x)
      (skips_rest file name (nr + 1) (fnr + 1) rs x ∙ sym (skips_rest there name (nr' + 1) (fnr + 1) rs x))

  -- After records of a file that were left through, FNR is the number of the last of them.
  pub last_fnr : (name : List ℕ) (nr fnr : ℕ) (r : List ℕ) (rs : List (List ℕ)) (e : End S) → let x = records None e (file_items 0 name nr fnr (r ∷ rs)) in x.left ≡ through → x.state.fnr ≡ fnr + length (r ∷ rs)
  last_fnr name nr fnr r [] e on =
      let i : Item = record { bytes = r; file = 0; name = name; nr = nr + 1; fnr = fnr + 1 } in
      let x = record_end i e in
      after_fnr (λ s y. y) 0 (fnr + length (r ∷ [])) x.left x refl (λ _. record_fnr i e ∙ one_more fnr) refl on
    where
      one_more : (n : ℕ) → n + 1 ≡ n + length (r ∷ [])
      one_more n = omega arith
  last_fnr name nr fnr r (r' ∷ rs) e on =
      let i : Item = record { bytes = r; file = 0; name = name; nr = nr + 1; fnr = fnr + 1 } in
      let x = record_end i e in
      after_fnr (λ s y. records s y (file_items 0 name (nr + 1) (fnr + 1) (r' ∷ rs))) 0 (fnr + length (r ∷ r' ∷ rs)) x.left x refl
      (λ k. last_fnr name (nr + 1) (fnr + 1) r' rs x k ∙ one_more fnr)
      (skips_rest 0 name (nr + 1) (fnr + 1) (r' ∷ rs) x) on
    where
      one_more : (n : ℕ) → n + 1 + length (r' ∷ rs) ≡ n + length (r ∷ r' ∷ rs)
      one_more n = omega arith

  -- ---- records of a file, and what follows them

  -- What follows a record, and those of its file that follow it, is run from where these are left.
  go_further : (go : Option ℕ → End S → End S) (both : Option ℕ → End S → End S) (one : Option ℕ → End S → End S) (file : ℕ) (l : Left) (r : End S) → r.left ≡ l → (r.left ≡ through → both None r ≡ after_leaving go file (one None r).left (one None r)) → both (Some file) r ≡ go (Some file) r → one (Some file) r ≡ r → let x = after_leaving one file l r in after_leaving both file l r ≡ after_leaving go file x.left x
  go_further go both one file through r is h k skips = h is
  go_further go both one file next_file r is h k skips = k ∙ sym (ap (λ x. after_leaving go file x r) is) ∙ sym (ap (λ (x : End S). after_leaving go file x.left x) skips)
  go_further go both one file (exit n) r is h k skips = sym (ap (λ x. after_leaving go file x r) is)
  go_further go both one file (fault f) r is h k skips = sym (ap (λ x. after_leaving go file x r) is)
  go_further go both one file clash r is h k skips = sym (ap (λ x. after_leaving go file x r) is)

  -- What follows the records of a file is run from where these are left, past the rest of the file where that is left unread.
  pub follow : (file : ℕ) (name : List ℕ) (nr fnr : ℕ) (rs : List (List ℕ)) (more : List Item) (e : End S) → e.left ≡ through → let x = records None e (file_items file name nr fnr rs) in records None e (file_items file name nr fnr rs ++ more) ≡ after_leaving (λ s y. records s y more) file x.left x
  follow file name nr fnr [] more e on = sym (ap (λ l. after_leaving (λ s y. records s y more) file l e) on)
  follow file name nr fnr (r ∷ rs) more e on =
      let i : Item = record { bytes = r; file = file; name = name; nr = nr + 1; fnr = fnr + 1 } in
      let x = record_end i e in
      let rest = file_items file name (nr + 1) (fnr + 1) rs in
      go_further (λ s y. records s y more) (λ s y. records s y (rest ++ more)) (λ s y. records s y rest) file x.left x refl
      (λ k. follow file name (nr + 1) (fnr + 1) rs more x k)
      (skips_to file name (nr + 1) (fnr + 1) rs more x)
      (skips_rest file name (nr + 1) (fnr + 1) rs x)

  abbrev ended : End S → Finish S
  ended e = after_records calls eres code budget e.left e

  -- Records of other files, of which the first is there, end after `nextfile` as after a record that was left through.
  abbrev OtherFiles : ℕ → End S → List Item → Type 0
  OtherFiles file e items = ended (records (Some file) e items) ≡ ended (records None (left_through e) items)

  -- The records of one other file in front of such.
  one_other : (file there : ℕ) (name : List ℕ) (nr : ℕ) (rs : List (List ℕ)) (more : List Item) (e : End S) → file < there → OtherFiles file e more → OtherFiles file e (file_items there name nr 0 rs ++ more)
  one_other file there name nr [] more e h k = k
  one_other file there name nr (r ∷ rs) more e h k =
      ap ended (when_false (there == file) (records (Some file) e (file_items there name (nr + 1) 1 rs ++ more)) _ (other_test there file h))

  module _ (make : Pairs → S → S) (rs : List ℕ) where
    -- The records of all files after one that was left by `nextfile`.
    other_files : (file there nr : ℕ) (fs : List File) (e : End S) → file < there → e.left ≡ next_file → OtherFiles file e (items_from rs there nr fs)
    other_files file there nr [] e h is = ap (λ l. after_records calls eres code budget l e) is
    other_files file there nr (f ∷ fs) e h is =
        one_other file there f.name nr (records_by rs f.bytes) (items_from rs (there + 1) (nr + length (records_by rs f.bytes)) fs) e h
        (other_files file (there + 1) (nr + length (records_by rs f.bytes)) fs e (omega (arith, h)) is)

    -- How a run ends after the records of a file, by how these were left.
    ends_after : (go : Option ℕ → End S → End S) (more : End S → Finish S) (file : ℕ) (l : Left) (x : End S) → x.left ≡ l → (x.left ≡ through → ended (go None x) ≡ more x) → (x.left ≡ next_file → ended (go (Some file) x) ≡ more (left_through x)) → ended (after_leaving go file l x) ≡ after_piece calls eres code budget more more l x
    ends_after go more file through x is h k = h is
    ends_after go more file next_file x is h k = k is
    ends_after go more file (exit n) x is h k = ap (λ l. after_records calls eres code budget l x) is
    ends_after go more file (fault f) x is h k = ap (λ l. after_records calls eres code budget l x) is
    ends_after go more file clash x is h k = ap (λ l. after_records calls eres code budget l x) is

    -- Without assignments the records of files in order, and END, are the rest of the run file by file.
    pub files_follow : KeepsWithout make → (file nr : ℕ) (fs : List File) (e : End S) → e.left ≡ through → ended (records None e (items_from rs file nr fs)) ≡ rest_in_turns calls eres code budget make [] rs e (map plain_turn fs)
    files_follow keeps file nr [] e on =
        ap (λ l. after_records calls eres code budget l e) on
        ∙ sym (ap (λ y. after_records calls eres code budget through y) (unassigned make keeps e))
    files_follow keeps file nr (f ∷ fs) e on =
        let all = records_by rs f.bytes in
        let rest = items_from rs (file + 1) (nr + length all) fs in
        let go : Option ℕ → End S → End S = λ s y. records s y rest in
        let more : End S → Finish S = λ y. rest_in_turns calls eres code budget make [] rs y (map plain_turn fs) in
        let x = records None e (file_items file f.name nr 0 all) in
        ap ended (follow file f.name nr 0 all rest e on)
        ∙ ends_after go more file x.left x refl
        (λ k. files_follow keeps (file + 1) (nr + length all) fs x k)
        (λ k. other_files file (file + 1) (nr + length all) fs x (omega arith) k ∙ files_follow keeps (file + 1) (nr + length all) fs (left_through x) refl)
        ∙ ap (λ (y : End S). after_piece calls eres code budget more more y.left y) (alike file 0 f.name nr 0 0 all e)
        ∙ sym (ap (λ y. piece_then calls eres code budget more more y f.name 0 all) (unassigned make keeps e))

    -- How a run goes on after a piece of a file, by how it was left.
    pieces_after : (go : Option ℕ → End S → End S) (next later : End S → Finish S) (l : Left) (x : End S) → x.left ≡ l → let goes_on : End S → Finish S = λ y. after_piece calls eres code budget later later y.left y in goes_on (go None x) ≡ next x → go (Some 0) x ≡ x → goes_on (after_leaving go 0 l x) ≡ after_piece calls eres code budget next later l x
    pieces_after go next later through x is h skips = h
    pieces_after go next later next_file x is h skips = ap (λ (y : End S). after_piece calls eres code budget later later y.left y) skips ∙ ap (λ l. after_piece calls eres code budget later later l x) is
    pieces_after go next later (exit n) x is h skips = ap (λ l. after_piece calls eres code budget later later l x) is
    pieces_after go next later (fault f) x is h skips = ap (λ l. after_piece calls eres code budget later later l x) is
    pieces_after go next later clash x is h skips = ap (λ l. after_piece calls eres code budget later later l x) is

    -- The second piece of a file follows the first, unless that ends the run or leaves the file.
    pub piece_follows : (last : Pairs) (name : List ℕ) (fnr : ℕ) (first second : List (List ℕ)) (ts : List Turn) (e : End S) → e.left ≡ through → rest_in_file calls eres code budget make last rs e name fnr (first ++ second) ts ≡ piece_then calls eres code budget (λ x. rest_in_file calls eres code budget make last rs x name (fnr + length first) second ts) (λ x. rest_in_turns calls eres code budget make last rs x ts) e name fnr first
    piece_follows last name fnr first second ts e on =
        let later : End S → Finish S = λ y. rest_in_turns calls eres code budget make last rs y ts in
        let next : End S → Finish S = λ y. rest_in_file calls eres code budget make last rs y name (fnr + length first) second ts in
        let goes_on : End S → Finish S = λ y. after_piece calls eres code budget later later y.left y in
        let n = 0 + length first in
        let rest = file_items 0 name n (fnr + length first) second in
        let x = records None e (file_items 0 name 0 fnr first) in
        ap (λ items. goes_on (records None e items)) (file_items-append 0 name 0 fnr first second)
        ∙ ap goes_on (follow 0 name 0 fnr first rest e on)
        ∙ pieces_after (λ s y. records s y rest) next later x.left x refl
        (ap goes_on (alike 0 0 name n 0 (fnr + length first) second x))
        (skips_rest 0 name n (fnr + length first) second x)

    -- ---- what was written before

    module _ (last : Pairs) (appended : OutputIsAppendedLaw calls) (stays : OutputStaysLaw calls) (out : List ℕ) where
      -- What was written before stays in front of what follows a piece, however that was left.
      left_output : (more later : End S → Finish S) → ((x : End S) → more (with_output_before out x) ≡ finish_with_output_before out (more x)) → ((x : End S) → later (with_output_before out x) ≡ finish_with_output_before out (later x)) → (l : Left) (x : End S) → after_piece calls eres code budget more later l (with_output_before out x) ≡ finish_with_output_before out (after_piece calls eres code budget more later l x)
      left_output more later h k through x = h x
      left_output more later h k next_file x = k (left_through x)
      left_output more later h k (exit n) x = stays eres code budget (exit n) out x
      left_output more later h k (fault f) x = stays eres code budget (fault f) out x
      left_output more later h k clash x = stays eres code budget clash out x

      -- It stays in front of what a piece and what follows it write.
      piece_output : (more later : End S → Finish S) → ((x : End S) → more (with_output_before out x) ≡ finish_with_output_before out (more x)) → ((x : End S) → later (with_output_before out x) ≡ finish_with_output_before out (later x)) → (e : End S) (name : List ℕ) (fnr : ℕ) (first : List (List ℕ)) → piece_then calls eres code budget more later (with_output_before out e) name fnr first ≡ finish_with_output_before out (piece_then calls eres code budget more later e name fnr first)
      piece_output more later h k e name fnr first =
          let x = records None e (file_items 0 name 0 fnr first) in
          ap (λ (y : End S). after_piece calls eres code budget more later y.left y) (appended eres code budget None (file_items 0 name 0 fnr first) out e)
          ∙ left_output more later h k x.left x

      -- It stays in front of what the rest of a run writes, file by file, whatever is assigned between files.
      pub turns_output : (ts : List Turn) (e : End S) → rest_in_turns calls eres code budget make last rs (with_output_before out e) ts ≡ finish_with_output_before out (rest_in_turns calls eres code budget make last rs e ts)
      turns_output [] e = stays eres code budget through out (after_assignments make last e)
      turns_output (t ∷ ts) e =
          let more : End S → Finish S = λ y. rest_in_turns calls eres code budget make last rs y ts in
          piece_output more more (λ x. turns_output ts x) (λ x. turns_output ts x) (after_assignments make t.before e) t.file.name 0 (records_by rs t.file.bytes)

      -- It stays in front of what the rest of a run writes from inside a file.
      pub file_output : (ts : List Turn) (e : End S) (name : List ℕ) (fnr : ℕ) (first : List (List ℕ)) → rest_in_file calls eres code budget make last rs (with_output_before out e) name fnr first ts ≡ finish_with_output_before out (rest_in_file calls eres code budget make last rs e name fnr first ts)
      file_output ts e name fnr first =
          let more : End S → Finish S = λ y. rest_in_turns calls eres code budget make last rs y ts in
          piece_output more more (λ x. turns_output ts x) (λ x. turns_output ts x) e name fnr first
