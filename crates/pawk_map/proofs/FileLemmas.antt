-- A run over a shard, file by file.
use Rattle.std.proofs.Common.{◌≡◌, ◌∙◌, ℕ, ◌+◌, true, false, List, [], ◌∷◌, ◌++◌, length, Option, Some, None, IfSome, refl, ap, sym, subst, append_assoc, append-nil, length-append, add-zero, arith}
use Rattle.std.proofs.lemmas.Grind.{flat_map-append}
use Rattle.std.proofs.lemmas.List.Concat.{flat_map-cons}
use Rattle.std.proofs.KnownBytes.{Consumes-nil, Consumes-trans}
use Rattle.std.specs.Io.KnownBytes.{Consumes, IsAtEnd}
use Rattle.pawk_records.specs.Records.{records_by}
use Rattle.pawk_records.proofs.BlocksLemmas.{no_records}
use Rattle.pawk_input.specs.Input.{File, file_items, items, items_from}
use Rattle.pawk_shards.specs.Numbers.{AreSameButNumbers}
use Rattle.pawk_window.specs.Feeds.{IsFileOf}
use Rattle.pawk_window.specs.declared.feed.Feed.{Feed}
use Rattle.pawk_map.specs.Maps.{Ground, Adds, ReadsOn, AreFilesOf, numbered_in, records_of}
use Rattle.pawk_map.specs.declared.draft.Course.{Course}
use Rattle.pawk_map.specs.declared.draft.Course.TheVariants.{On, Over}
use Rattle.pawk_map.specs.declared.draft.Draft.{Draft}
use Rattle.pawk_map.specs.declared.stream.Stream.{Stream}
use Rattle.pawk_map.proofs.TellLemmas.{same_refl, same_append, same_file, file_append}
use Rattle.pawk_map.proofs.MapLemmas.{adds_none, adds_then, adds_over, adds_same}

-- ---- records of a file

-- Records of a file in two, each from where the other ends.
pub numbered_append : (name : List ℕ) (fnr : ℕ) (rs more : List (List ℕ)) →
    AreSameButNumbers (numbered_in name fnr rs ++ numbered_in name (fnr + length rs) more) (numbered_in name fnr (rs ++ more))
numbered_append name fnr rs more =
    subst (AreSameButNumbers (numbered_in name fnr rs ++ numbered_in name (fnr + length rs) more)) (sym (file_append 0 name 0 fnr rs more))
    (same_append (numbered_in name fnr rs) (numbered_in name fnr rs) (numbered_in name (fnr + length rs) more) (file_items 0 name (0 + length rs) (fnr + length rs) more)
    (same_refl (numbered_in name fnr rs)) (same_file 0 0 name 0 (0 + length rs) (fnr + length rs) more))

-- ---- pieces of a file

pub reads_none : (u : Ground) (left taken : Option (List ℕ)) (name : List ℕ) (s : Stream) (fnr : ℕ) → s.window.ended ≡ false → ReadsOn u left left taken taken name s fnr On s fnr
reads_none u left taken name s fnr goes = record {
  read = [];
  consumes = Consumes-nil left;
  records = [];
  adds = adds_none u taken s.draft;
  ended = λ e. let bad : true ≡ false = sym e ∙ goes in absurd cc;
  parts = λ more nothing. refl;
  counted = λ on. sym (add-zero fnr);
}

pub reads_then : (u : Ground) (left mid_left now_left taken mid_taken now_taken : Option (List ℕ)) (name : List ℕ) (old : Stream) (fnr : ℕ) (mid : Stream) (mid_fnr : ℕ) (c : Course) (new : Stream) (now_fnr : ℕ) →
    ReadsOn u left mid_left taken mid_taken name old fnr On mid mid_fnr → mid.window.ended ≡ false → ReadsOn u mid_left now_left mid_taken now_taken name mid mid_fnr c new now_fnr →
    ReadsOn u left now_left taken now_taken name old fnr c new now_fnr
reads_then u left mid_left now_left taken mid_taken now_taken name old fnr mid mid_fnr c new now_fnr first goes second =
    let one = numbered_in name fnr first.records in
    let other = numbered_in name mid_fnr second.records in
    let at : mid_fnr ≡ fnr + length first.records = first.counted refl in
    record {
      read = first.read ++ second.read;
      consumes = Consumes-trans left mid_left now_left first.read second.read first.consumes second.consumes;
      records = first.records ++ second.records;
      adds = adds_same u taken now_taken old.draft new.draft (one ++ other) (numbered_in name fnr (first.records ++ second.records)) c
          (subst (λ n. AreSameButNumbers (one ++ numbered_in name n second.records) (numbered_in name fnr (first.records ++ second.records))) (sym at)
          (numbered_append name fnr first.records second.records))
          (adds_then u taken mid_taken now_taken old.draft mid.draft new.draft one other c first.adds second.adds);
      ended = second.ended;
      parts = λ more nothing.
          ap (λ l. records_by u.rs (old.window.tail ++ l)) (append_assoc first.read second.read more)
          ∙ first.parts (second.read ++ more) (λ e. let bad : true ≡ false = sym e ∙ goes in absurd cc)
          ∙ ap (λ l. first.records ++ l) (second.parts more nothing)
          ∙ sym (append_assoc first.records second.records (records_by u.rs (new.window.tail ++ more)));
      counted = λ on. let l = length-append first.records second.records in let e = second.counted on in omega (arith, l, e, at);
    }

-- ---- a file

-- what is left, where it is known
abbrev known : Option (List ℕ) → List ℕ
known None = []
known (Some all) = all

known_is : (left : Option (List ℕ)) → IfSome left (λ all. known left ≡ all)
known_is None = tt
known_is (Some all) = refl

known_end : (left : Option (List ℕ)) → IsAtEnd left → known left ≡ []
known_end None h = refl
known_end (Some all) h = h

known_all : (left now : Option (List ℕ)) (read : List ℕ) → Consumes left now read → IfSome left (λ all. read ++ known now ≡ all)
known_all None now read h = tt
known_all (Some s) None read h = absurd h
known_all (Some s) (Some t) read h = sym h

module _ (u : Ground) (taken now_taken : Option (List ℕ)) (name : List ℕ) (d e : Draft) where
  -- Records of a file were added; those that follow in the file are none, or left unread.
  rest_added : (c : Course) (rs more : List (List ℕ)) → (c ≡ On → more ≡ []) → Adds u taken now_taken d (numbered_in name 0 rs) c e → Adds u taken now_taken d (numbered_in name 0 (rs ++ more)) c e
  rest_added On rs more none h =
      subst (λ x. Adds u taken now_taken d (numbered_in name 0 x) On e) (sym (append-nil rs) ∙ ap (λ x. rs ++ x) (sym (none refl))) h
  rest_added Over rs more none h =
      adds_same u taken now_taken d e (numbered_in name 0 rs ++ numbered_in name (0 + length rs) more) (numbered_in name 0 (rs ++ more)) Over
      (numbered_append name 0 rs more)
      (adds_over u taken now_taken d e (numbered_in name 0 rs) (numbered_in name (0 + length rs) more) h)

module _ {S : Type 0} (source_left : S → Option (List ℕ)) (u : Ground) (feed : Feed S) (taken now_taken : Option (List ℕ)) where
  -- All that was added of a file, to its end or to where no more is run.
  pub file_added : (now_left : Option (List ℕ)) (old : Stream) (c : Course) (new : Stream) (now_fnr : ℕ) →
      old.window.tail ≡ [] → ReadsOn u (source_left feed.source) now_left taken now_taken feed.name.items old 0 c new now_fnr → (c ≡ On → new.window.ended ≡ true) →
      (file : File) × IsFileOf source_left feed file × Adds u taken now_taken old.draft (numbered_in file.name 0 (records_by u.rs file.bytes)) c new.draft
  file_added now_left old c new now_fnr none run all =
      let rest = known now_left in
      let file : File = record { name = feed.name.items; bytes = run.read ++ rest } in
      let no_more : new.window.ended ≡ true → rest ≡ [] = λ e. known_end now_left (run.ended e).1 in
      let later = records_by u.rs (new.window.tail ++ rest) in
      let are : run.records ++ later ≡ records_by u.rs file.bytes =
      sym (run.parts rest no_more) ∙ ap (λ l. records_by u.rs (l ++ (run.read ++ rest))) none in
      let nothing : c ≡ On → later ≡ [] = λ on.
      ap (λ l. records_by u.rs (l ++ rest)) (run.ended (all on)).0 ∙ ap (λ l. records_by u.rs l) (no_more (all on)) ∙ no_records u.rs in (
        file,
        record { name = refl; bytes = known_all (source_left feed.source) now_left run.read run.consumes },
        subst (λ l. Adds u taken now_taken old.draft (numbered_in file.name 0 l) c new.draft) are
            (rest_added u taken now_taken feed.name.items old.draft new.draft c run.records later nothing run.adds),
      )

-- ---- files

module _ {S : Type 0} (left : S → Option (List ℕ)) where
  pub files_append : (xs ys : List (Feed S)) (fs gs : List File) → AreFilesOf left xs fs → AreFilesOf left ys gs → AreFilesOf left (xs ++ ys) (fs ++ gs)
  files_append [] ys [] gs h k = k
  files_append [] ys (f ∷ fs) gs h k = absurd h
  files_append (x ∷ xs) ys [] gs h k = absurd h
  files_append (x ∷ xs) ys (f ∷ fs) gs h k = (h.0, files_append xs ys fs gs h.1 k)

  -- All feeds have files.
  pub some_files : (feeds : List (Feed S)) → (files : List File) × AreFilesOf left feeds files
  some_files [] = ([], tt)
  some_files (x ∷ xs) =
      let rest = some_files xs in (
        record { name = x.name.items; bytes = known (left x.source) } ∷ rest.0,
        (record { name = refl; bytes = known_is (left x.source) }, rest.1),
      )

pub records_append : (rs : List ℕ) (fs gs : List File) → records_of rs (fs ++ gs) ≡ records_of rs fs ++ records_of rs gs
records_append rs fs gs = flat_map-append (λ (f : File). numbered_in f.name 0 (records_by rs f.bytes)) fs gs

pub records_one : (rs : List ℕ) (f : File) → records_of rs (f ∷ []) ≡ numbered_in f.name 0 (records_by rs f.bytes)
records_one rs f = flat_map-cons (λ (f : File). numbered_in f.name 0 (records_by rs f.bytes)) f [] ∙ append-nil (numbered_in f.name 0 (records_by rs f.bytes))

same_items : (rs : List ℕ) (place nr : ℕ) (files : List File) → AreSameButNumbers (records_of rs files) (items_from rs place nr files)
same_items rs place nr [] = tt
same_items rs place nr (f ∷ fs) =
    let all = records_by rs f.bytes in
    let rest = items_from rs (place + 1) (nr + length all) fs in
    subst (λ x. AreSameButNumbers x (file_items place f.name nr 0 all ++ rest))
    (sym (flat_map-cons (λ (f : File). numbered_in f.name 0 (records_by rs f.bytes)) f fs))
    (same_append (numbered_in f.name 0 all) (file_items place f.name nr 0 all) (records_of rs fs) rest
    (same_file 0 place f.name 0 nr 0 all) (same_items rs (place + 1) (nr + length all) fs))

-- They are the records of the files in order, but for their numbers.
pub records_are : (rs : List ℕ) (files : List File) → AreSameButNumbers (records_of rs files) (items rs files)
records_are rs files = same_items rs 0 0 files
