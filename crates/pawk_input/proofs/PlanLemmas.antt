-- The chunks of a plan hold the records in order, with their numbers.
use Rattle.std.proofs.Common.{◌≡◌, ◌⊎◌, inl, inr, ℕ, zero, suc, ◌+◌, ◌-◌, ◌<◌, ◌≤◌, Bool, true, false, cond, leb, List, [], ◌∷◌, ◌++◌, length, take, drop, get_or, refl, ap, arith, sym, ◌∙◌, subst, All, append_assoc, length-append}
use Rattle.std.proofs.lemmas.Bool.{false≢true}
use Rattle.std.proofs.lemmas.Bool.Decides.{leb_tells}
use Rattle.std.proofs.lemmas.List.{append-nil, drop_all, take_rest, drop-drop, get_or-drop, length-drop, drop_more, nil_from_length}
use Rattle.std.proofs.lemmas.List.Elements.{All-nil, All-cons, All-head, All-tail, All-append}
use Rattle.std.proofs.lemmas.List.Concat.{flat_map-append}
use Rattle.std.specs.List.{flat_map, slice_range, Contains}
use Rattle.memchr.specs.Find.{Nowhere}
use Rattle.pawk_records.specs.Records.{records_by}
use Rattle.pawk_records.specs.Begins.{BeginsAt, begins_at, begins_by, places_where}
use Rattle.pawk_records.proofs.BeginsLemmas.{begins_law_lem, begins_in_rest, length-begins_by, length-records_part, none_before, records_at, some_records_at}
use Rattle.pawk_input.specs.Input.{File, Item, file_at, empty_file, file_items, items_from, total_size}
use Rattle.pawk_input.specs.Plan.{IsPlanOf, IsChunkOf, Rises, chunk_bytes, chunk_items, chunks_at, chunks_of, places_by_size, places_by_size_from}
use Rattle.pawk_input.specs.declared.cutting.Chunk.{Chunk}
use Rattle.pawk_input.proofs.ItemsLemmas.{length-file_items, length-items_from}

pub file_items-append : (file : ℕ) (name : List ℕ) (nr fnr : ℕ) (xs ys : List (List ℕ)) → file_items file name nr fnr (xs ++ ys) ≡ file_items file name nr fnr xs ++ file_items file name (nr + length xs) (fnr + length xs) ys
file_items-append file name nr fnr [] ys =
    let a : nr ≡ nr + 0 = omega arith in
    let b : fnr ≡ fnr + 0 = omega arith in
    ap (λ n. file_items file name n fnr ys) a ∙ ap (λ n. file_items file name (nr + 0) n ys) b
file_items-append file name nr fnr (x ∷ xs) ys =
    let a : nr + 1 + length xs ≡ nr + length (x ∷ xs) = omega arith in
    let b : fnr + 1 + length xs ≡ fnr + length (x ∷ xs) = omega arith in
    let front = record { bytes = x; file = file; name = name; nr = nr + 1; fnr = fnr + 1 } ∷ file_items file name (nr + 1) (fnr + 1) xs in
    ap (λ l. record { bytes = x; file = file; name = name; nr = nr + 1; fnr = fnr + 1 } ∷ l) (file_items-append file name (nr + 1) (fnr + 1) xs ys)
    ∙ ap (λ n. front ++ file_items file name n (fnr + 1 + length xs) ys) a
    ∙ ap (λ n. front ++ file_items file name (nr + length (x ∷ xs)) n ys) b

-- ---- the chunks of one file

module _ (rs : List ℕ) (files : List File) (k nr : ℕ) (name bytes : List ℕ) (is_file : file_at files k ≡ record { name = name; bytes = bytes }) where
  abbrev before : ℕ → ℕ
  before p = length (records_by rs (take p bytes))

  abbrev chunk_of : ℕ → ℕ → Chunk
  chunk_of p q = record { file = k; range = record { start = p; end = q }; nr = nr + before p; fnr = before p }

  items_of_chunk : (p q : ℕ) → chunk_items rs files (chunk_of p q) ≡ file_items k name (nr + before p) (before p) (records_by rs (take (q - p) (drop p bytes)))
  items_of_chunk p q = ap (λ (f : File). file_items k f.name (nr + before p) (before p) (records_by rs (slice_range f.bytes p q))) is_file

  items_of_chunks : (p : ℕ) (qs : List ℕ) → BeginsAt rs bytes p → p < length bytes → Rises rs bytes p qs
      → flat_map (chunk_items rs files) (chunks_at rs k bytes nr (p ∷ qs)) ≡ file_items k name (nr + before p) (before p) (records_by rs (drop p bytes))
  items_of_chunks p [] begins lt rising =
      append-nil _ ∙ items_of_chunk p (length bytes) ∙ ap (λ l. file_items k name (nr + before p) (before p) (records_by rs l)) (take_rest bytes p)
  items_of_chunks p (q ∷ qs) begins lt rising =
      let part = take (q - p) (drop p bytes) in
      let rest = drop p bytes in
      let there : p + (q - p) ≡ q = omega (arith, rising.0) in
      let parted : records_by rs rest ≡ records_by rs part ++ records_by rs (drop q bytes) =
      records_at rs rest (q - p) (begins_in_rest rs bytes p q rising.2 (omega (arith, rising.0))) (omega (arith, length-drop p bytes, rising.1))
      ∙ ap (λ l. records_by rs part ++ records_by rs l) (drop-drop (q - p) p bytes ∙ ap (λ i. drop i bytes) there) in
      let count : before q ≡ before p + length (records_by rs part) =
      ap before (sym there) ∙ length-records_part rs bytes p (q - p) begins (omega (arith, rising.0)) (omega (arith, rising.0, rising.1)) in
      let nrs : nr + before q ≡ nr + before p + length (records_by rs part) = omega arith in
      let later = items_of_chunks q qs rising.2 rising.1 rising.3 in
      ap (λ l. l ++ flat_map (chunk_items rs files) (chunks_at rs k bytes nr (q ∷ qs))) (items_of_chunk p q)
      ∙ ap (λ l. file_items k name (nr + before p) (before p) (records_by rs part) ++ l) (later
      ∙ ap (λ n. file_items k name n (before q) (records_by rs (drop q bytes))) nrs
      ∙ ap (λ n. file_items k name (nr + before p + length (records_by rs part)) n (records_by rs (drop q bytes))) count)
      ∙ sym (file_items-append k name (nr + before p) (before p) (records_by rs part) (records_by rs (drop q bytes)))
      ∙ ap (file_items k name (nr + before p) (before p)) (sym parted)

  module _ (exists : k < length files) where
    is_chunk : (p q : ℕ) → BeginsAt rs bytes p → p < q → q ≤ length bytes → IsChunkOf rs files (chunk_of p q)
    is_chunk p q begins lt le =
        let part = take (q - p) (drop p bytes) in
        let some = some_records_at rs bytes p q begins lt le in
        let count = ap length (items_of_chunk p q) ∙ length-file_items k name (nr + before p) (before p) (records_by rs part) in
        record {
          exists = exists;
          rises = lt;
          within = subst (λ (f : File). q ≤ length f.bytes) (sym is_file) le;
          begins = subst (λ (f : File). Contains (begins_by rs f.bytes) p) (sym is_file) (((begins_law_lem rs bytes).just p).1 (omega arith, begins));
          some = omega (arith, count, some);
        }

    each_chunk : (p : ℕ) (qs : List ℕ) → BeginsAt rs bytes p → p < length bytes → Rises rs bytes p qs → All (λ c. IsChunkOf rs files c) (chunks_at rs k bytes nr (p ∷ qs))
    each_chunk p [] begins lt rising =
        All-cons (λ c. IsChunkOf rs files c) (chunk_of p (length bytes)) [] (is_chunk p (length bytes) begins lt (omega arith)) (All-nil (λ c. IsChunkOf rs files c))
    each_chunk p (q ∷ qs) begins lt rising =
        All-cons (λ c. IsChunkOf rs files c) (chunk_of p q) (chunks_at rs k bytes nr (q ∷ qs))
        (is_chunk p q begins rising.0 (omega (arith, rising.1)))
        (each_chunk q qs rising.2 rising.1 rising.3)

-- the places at which a file's chunks begin: with its first record, and at records after it
abbrev pub Picked : List ℕ → List ℕ → List ℕ → Type 0
Picked rs bytes [] = begins_by rs bytes ≡ []
Picked rs bytes (p ∷ ps) = (p < length bytes) × BeginsAt rs bytes p × Nowhere (BeginsAt rs bytes) 0 p × Rises rs bytes p ps

module _ (rs : List ℕ) (files : List File) (k nr : ℕ) (name : List ℕ) where
  items_of_file : (bytes ps : List ℕ) → file_at files k ≡ record { name = name; bytes = bytes } → Picked rs bytes ps
      → flat_map (chunk_items rs files) (chunks_at rs k bytes nr ps) ≡ file_items k name nr 0 (records_by rs bytes)
  items_of_file bytes [] is_file h =
      ap (file_items k name nr 0) (sym (nil_from_length (records_by rs bytes) (sym (length-begins_by rs bytes) ∙ ap length h)))
  items_of_file bytes (p ∷ ps) is_file h =
      let none : records_by rs (take p bytes) ≡ [] = none_before rs bytes p (omega (arith, h.0)) (λ k lt. h.2 k (omega arith) lt) in
      let whole : records_by rs bytes ≡ records_by rs (drop p bytes) = records_at rs bytes p h.1 (omega (arith, h.0)) ∙ ap (λ l. l ++ records_by rs (drop p bytes)) none in
      let zero_before : length (records_by rs (take p bytes)) ≡ 0 = ap length none in
      items_of_chunks rs files k nr name bytes is_file p ps h.1 h.0 h.3
      ∙ ap (λ n. file_items k name (nr + n) n (records_by rs (drop p bytes))) zero_before
      ∙ ap (λ n. file_items k name n 0 (records_by rs (drop p bytes))) (let z : nr + 0 ≡ nr = omega arith in z)
      ∙ ap (file_items k name nr 0) (sym whole)

  each_of_file : (bytes ps : List ℕ) → file_at files k ≡ record { name = name; bytes = bytes } → k < length files → Picked rs bytes ps
      → All (λ c. IsChunkOf rs files c) (chunks_at rs k bytes nr ps)
  each_of_file bytes [] is_file exists h = All-nil (λ c. IsChunkOf rs files c)
  each_of_file bytes (p ∷ ps) is_file exists h = each_chunk rs files k nr name bytes is_file exists p ps h.1 h.0 h.3

-- ---- the chunks of all files

module _ (rs : List ℕ) (files : List File) (chosen : ℕ → List ℕ → List ℕ)
    (picked : (j : ℕ) → Picked rs (file_at files j).bytes (chosen j (begins_by rs (file_at files j).bytes))) where
  first_left : (k : ℕ) (f : File) (fs : List File) → drop k files ≡ f ∷ fs → file_at files k ≡ f
  first_left k f fs h =
      let z : k ≡ k + 0 = omega arith in
      ap (λ i. get_or files i empty_file) z ∙ sym (get_or-drop k files 0 empty_file) ∙ ap (λ l. get_or l 0 empty_file) h

  later_left : (k : ℕ) (f : File) (fs : List File) → drop k files ≡ f ∷ fs → drop (k + 1) files ≡ fs
  later_left k f fs h = sym (drop-drop 1 k files) ∙ ap (drop 1) h

  is_there : (k : ℕ) (f : File) (fs : List File) → drop k files ≡ f ∷ fs → k < length files
  is_there k f fs h = omega (arith, length-drop k files, ap length h)

  picked_of : (k : ℕ) (f : File) → file_at files k ≡ f → Picked rs f.bytes (chosen k (begins_by rs f.bytes))
  picked_of k f h = subst (λ (g : File). Picked rs g.bytes (chosen k (begins_by rs g.bytes))) h (picked k)

  items_of_plan : (k nr : ℕ) (fs : List File) → drop k files ≡ fs → flat_map (chunk_items rs files) (chunks_of rs chosen k nr fs) ≡ items_from rs k nr fs
  items_of_plan k nr [] h = refl
  items_of_plan k nr (f ∷ fs) h =
      let here = first_left k f fs h in
      let count = nr + length (records_by rs f.bytes) in
      flat_map-append (chunk_items rs files) (chunks_at rs k f.bytes nr (chosen k (begins_by rs f.bytes))) (chunks_of rs chosen (k + 1) count fs)
      ∙ ap (λ l. l ++ flat_map (chunk_items rs files) (chunks_of rs chosen (k + 1) count fs)) (items_of_file rs files k nr f.name f.bytes (chosen k (begins_by rs f.bytes)) here (picked_of k f here))
      ∙ ap (λ l. file_items k f.name nr 0 (records_by rs f.bytes) ++ l) (items_of_plan (k + 1) count fs (later_left k f fs h))

  each_of_plan : (k nr : ℕ) (fs : List File) → drop k files ≡ fs → All (λ c. IsChunkOf rs files c) (chunks_of rs chosen k nr fs)
  each_of_plan k nr [] h = All-nil (λ c. IsChunkOf rs files c)
  each_of_plan k nr (f ∷ fs) h =
      let here = first_left k f fs h in
      let count = nr + length (records_by rs f.bytes) in
      All-append (λ c. IsChunkOf rs files c) (chunks_at rs k f.bytes nr (chosen k (begins_by rs f.bytes))) (chunks_of rs chosen (k + 1) count fs)
      (each_of_file rs files k nr f.name f.bytes (chosen k (begins_by rs f.bytes)) here (is_there k f fs h) (picked_of k f here))
      (each_of_plan (k + 1) count fs (later_left k f fs h))

  pub is_plan : IsPlanOf rs files (chunks_of rs chosen 0 0 files)
  is_plan = record { whole = items_of_plan 0 0 files refl; each = each_of_plan 0 0 files refl }

  -- once the chunks of all files are there
  pub plan_at_end : (file nr : ℕ) (chunks : List Chunk) → length files ≤ file → chunks ++ chunks_of rs chosen file nr (drop file files) ≡ chunks_of rs chosen 0 0 files
      → IsPlanOf rs files chunks
  plan_at_end file nr chunks past is =
      let none : drop file files ≡ [] = drop_all file files past in
      let whole : chunks ≡ chunks_of rs chosen 0 0 files = sym (append-nil chunks) ∙ ap (λ l. chunks ++ chunks_of rs chosen file nr l) (sym none) ∙ is in
      subst (IsPlanOf rs files) (sym whole) is_plan

-- ---- by size

module _ (rs s : List ℕ) where
  Rises-lower : (p q : ℕ) (xs : List ℕ) → p ≤ q → Rises rs s q xs → Rises rs s p xs
  Rises-lower p q [] le h = tt
  Rises-lower p q (x ∷ xs) le h = (omega (arith, h.0), h.1, h.2, h.3)

  Rises-places_by_size : (size : ℕ → ℕ) (from p : ℕ) (xs : List ℕ) → Rises rs s p xs → Rises rs s p (places_by_size_from size from xs)
  Rises-places_by_size size from p [] h = tt
  Rises-places_by_size size from p (x ∷ xs) h =
      let kept = Rises-places_by_size size x x xs h.3 in
      let later = Rises-lower p x (places_by_size_from size from xs) (omega (arith, h.0)) (Rises-places_by_size size from x xs h.3) in
      elim (leb (from + size from) x) as (λ v. Rises rs s p (cond v (x ∷ places_by_size_from size x xs) (places_by_size_from size from xs))) [
        | true ↦ (h.0, h.1, h.2, kept)
        | false ↦ later
      ]

  -- the places where records begin, from one on
  pub Rises-begins : (at n p : ℕ) → at + n ≤ length s → p < at → Rises rs s p (places_where (begins_at rs s) at n)
  Rises-begins at zero p le lt = tt
  Rises-begins at (suc n) p le lt =
      let l = places_where (begins_at rs s) (at + 1) n in
      elim (begins_at rs s at) as (λ v. (begins_at rs s at ≡ v) → Rises rs s p (cond v (at ∷ l) l)) [
        | true ↦ (λ e. (lt, omega arith, e, Rises-begins (at + 1) n at (omega arith) (omega arith)))
        | false ↦ (λ e. Rises-lower p at l (omega arith) (Rises-begins (at + 1) n at (omega arith) (omega arith)))
      ] refl

-- the first place that passes a test, and those after it, or none
abbrev pub FirstPlace : (ℕ → Bool) → ℕ → ℕ → Type 0
FirstPlace test i n =
    (places_where test i n ≡ [])
    ⊎ ((p : ℕ) × (i ≤ p) × (p < i + n) × Nowhere (λ q. test q ≡ true) i p × (test p ≡ true) × (places_where test i n ≡ p ∷ places_where test (p + 1) (i + n - (p + 1))))

pub first_place : (test : ℕ → Bool) (i n : ℕ) → FirstPlace test i n
first_place test i zero = inl refl
first_place test i (suc n) =
    let l = places_where test (i + 1) n in
    let size : i + suc n - (i + 1) ≡ n = omega arith in
    elim (test i) as (λ v. (test i ≡ v) → FirstPlace test i (suc n)) [
      | true ↦ (λ e. inr (i, omega arith, omega arith, (λ k low high. absurd (omega arith)), e, rw e (ap (λ m. i ∷ places_where test (i + 1) m) (sym size))))
      | false ↦ (λ e. elim (first_place test (i + 1) n) [
        | inl none ↦ inl (rw e none)
        | inr h ↦ inr (
          h.0,
          omega (arith, h.1),
          omega (arith, h.2),
          past i h.0 e h.3,
          h.4,
          rw e (h.5 ∙ ap (λ m. h.0 ∷ places_where test (h.0 + 1) m) (let m : i + 1 + n - (h.0 + 1) ≡ i + suc n - (h.0 + 1) = omega arith in m)),
        )
      ])
    ] refl
  where
    past : (i p : ℕ) → test i ≡ false → Nowhere (λ q. test q ≡ true) (i + 1) p → Nowhere (λ q. test q ≡ true) i p
    past i p e none k low high is = elim (leb_tells (i + 1) k) [
      | inl later ↦ none k later.1 high is
      | inr here ↦ (let same : i ≡ k = omega (arith, here.1) in false≢true (sym e ∙ ap test same ∙ is))
    ]

pub picked_by_size : (rs : List ℕ) (size : ℕ → ℕ) (s : List ℕ) → Picked rs s (places_by_size size (begins_by rs s))
picked_by_size rs size s = elim (first_place (begins_at rs s) 0 (length s)) [
  | inl none ↦ rw none none
  | inr h ↦ rw h.5 (omega (arith, h.2), h.4, h.3, Rises-places_by_size rs s size h.0 h.0 (places_where (begins_at rs s) (h.0 + 1) (0 + length s - (h.0 + 1))) (Rises-begins rs s (h.0 + 1) (0 + length s - (h.0 + 1)) h.0 (omega (arith, h.2)) (omega arith)))
]

-- ---- a loop over the files

module _ (rs : List ℕ) (files : List File) (chosen : ℕ → List ℕ → List ℕ) (file nr : ℕ) (bytes : List ℕ)
    (there : file < length files) (is_bytes : bytes ≡ (file_at files file).bytes) where
  -- the chunks of what is left are those of the next file, and those after it
  pub planned_next : (later : ℕ) → later ≡ nr + length (records_by rs bytes)
      → chunks_of rs chosen file nr (drop file files) ≡ chunks_at rs file bytes nr (chosen file (begins_by rs bytes)) ++ chunks_of rs chosen (file + 1) later (drop (file + 1) files)
  planned_next later count =
      ap (chunks_of rs chosen file nr) (drop_more files file empty_file there)
      ∙ ap (λ s. chunks_at rs file s nr (chosen file (begins_by rs s)) ++ chunks_of rs chosen (file + 1) (nr + length (records_by rs s)) (drop (file + 1) files)) (sym is_bytes)
      ∙ ap (λ n. chunks_at rs file bytes nr (chosen file (begins_by rs bytes)) ++ chunks_of rs chosen (file + 1) n (drop (file + 1) files)) (sym count)

  -- once the next file's chunks are there, those of the files after it are left
  pub planned_turn : (later : ℕ) (old new all : List Chunk) → later ≡ nr + length (records_by rs bytes) → new ≡ old ++ chunks_at rs file bytes nr (chosen file (begins_by rs bytes))
      → old ++ chunks_of rs chosen file nr (drop file files) ≡ all → new ++ chunks_of rs chosen (file + 1) later (drop (file + 1) files) ≡ all
  planned_turn later old new all count added is =
      let rest = chunks_of rs chosen (file + 1) later (drop (file + 1) files) in
      ap (λ l. l ++ rest) added ∙ append_assoc old (chunks_at rs file bytes nr (chosen file (begins_by rs bytes))) rest
      ∙ ap (λ l. old ++ l) (sym (planned_next later count)) ∙ is

  -- there are at least as many as those and the next file's
  pub planned_fits : (old all : List Chunk) → old ++ chunks_of rs chosen file nr (drop file files) ≡ all → length old + length (chunks_at rs file bytes nr (chosen file (begins_by rs bytes))) ≤ length all
  planned_fits old all is =
      let here = chunks_at rs file bytes nr (chosen file (begins_by rs bytes)) in
      let count = nr + length (records_by rs bytes) in
      let rest = chunks_of rs chosen (file + 1) count (drop (file + 1) files) in
      let both = sym (length-append old (chunks_of rs chosen file nr (drop file files))) ∙ ap length is in
      let next = ap length (planned_next count refl) ∙ length-append here rest in
      omega (arith, both, next)

  -- and the bytes that are left
  pub total_size_next : total_size (drop file files) ≡ length bytes + total_size (drop (file + 1) files)
  total_size_next = ap total_size (drop_more files file empty_file there) ∙ ap (λ s. length s + total_size (drop (file + 1) files)) (sym is_bytes)

-- ---- a chunk of a plan

-- file_items items rise by one from the n before them, and no number in a file passes the number among
-- all
abbrev pub Counted : ℕ → List Item → Type 0
Counted n [] = Unit {0}
Counted n (i ∷ is) = (i.nr ≡ n + 1) × (i.fnr ≤ i.nr) × Counted (n + 1) is

Counted-append : (n : ℕ) (xs ys : List Item) → Counted n xs → Counted (n + length xs) ys → Counted n (xs ++ ys)
Counted-append n [] ys h k = subst (λ m. Counted m ys) (let z : n + 0 ≡ n = omega arith in z) k
Counted-append n (x ∷ xs) ys h k =
    let same : n + length (x ∷ xs) ≡ n + 1 + length xs = omega arith in
    (h.0, h.1, Counted-append (n + 1) xs ys h.2 (subst (λ m. Counted m ys) same k))

Counted-after : (n : ℕ) (xs ys : List Item) → Counted n (xs ++ ys) → Counted (n + length xs) ys
Counted-after n [] ys h = subst (λ m. Counted m ys) (let z : n ≡ n + 0 = omega arith in z) h
Counted-after n (x ∷ xs) ys h =
    let same : n + 1 + length xs ≡ n + length (x ∷ xs) = omega arith in
    subst (λ m. Counted m ys) same (Counted-after (n + 1) xs ys h.2)

Counted-file_items : (file : ℕ) (name : List ℕ) (nr fnr : ℕ) (rs : List (List ℕ)) → fnr ≤ nr → Counted nr (file_items file name nr fnr rs)
Counted-file_items file name nr fnr [] le = tt
Counted-file_items file name nr fnr (r ∷ rs) le = (refl, omega arith, Counted-file_items file name (nr + 1) (fnr + 1) rs (omega arith))

Counted-items_from : (rs : List ℕ) (file nr : ℕ) (fs : List File) → Counted nr (items_from rs file nr fs)
Counted-items_from rs file nr [] = tt
Counted-items_from rs file nr (f ∷ fs) =
    let front = file_items file f.name nr 0 (records_by rs f.bytes) in
    let same : nr + length (records_by rs f.bytes) ≡ nr + length front = omega (arith, length-file_items file f.name nr 0 (records_by rs f.bytes)) in
    let later = items_from rs (file + 1) (nr + length (records_by rs f.bytes)) fs in
    Counted-append nr front later (Counted-file_items file f.name nr 0 (records_by rs f.bytes) (omega arith))
    (subst (λ m. Counted m later) same (Counted-items_from rs (file + 1) (nr + length (records_by rs f.bytes)) fs))

module _ (rs : List ℕ) (files : List File) where
  -- of file_items records that are some, the ones before them are counted right
  counted_first : (n file : ℕ) (name : List ℕ) (nr fnr : ℕ) (records : List (List ℕ)) (more : List Item) → 0 < length (file_items file name nr fnr records)
      → Counted n (file_items file name nr fnr records ++ more) → (nr ≡ n) × (fnr ≤ nr)
  counted_first n file name nr fnr [] more some h = absurd (omega arith)
  counted_first n file name nr fnr (r ∷ records) more some h = (omega (arith, h.0), omega (arith, h.1))

  counted_chunk : (n : ℕ) (chunks : List Chunk) (i : ℕ) (d : Chunk) → i < length chunks → All (λ c. IsChunkOf rs files c) chunks
      → Counted n (flat_map (chunk_items rs files) chunks)
      → ((get_or chunks i d).nr + length (records_by rs (chunk_bytes files (get_or chunks i d))) ≤ n + length (flat_map (chunk_items rs files) chunks))
      × ((get_or chunks i d).fnr ≤ (get_or chunks i d).nr)
  counted_chunk n [] i d lt each h = absurd (omega arith)
  counted_chunk n (c ∷ cs) zero d lt each h =
      let first = All-head (λ c. IsChunkOf rs files c) c cs each in
      let front = file_items c.file (file_at files c.file).name c.nr c.fnr (records_by rs (chunk_bytes files c)) in
      let right = counted_first n c.file (file_at files c.file).name c.nr c.fnr (records_by rs (chunk_bytes files c)) (flat_map (chunk_items rs files) cs) first.some h in
      let long = length-append front (flat_map (chunk_items rs files) cs) in
      let count = length-file_items c.file (file_at files c.file).name c.nr c.fnr (records_by rs (chunk_bytes files c)) in
      (omega (arith, right.0, long, count), right.1)
  counted_chunk n (c ∷ cs) (suc i) d lt each h =
      let front = chunk_items rs files c in
      let rest = counted_chunk (n + length front) cs i d (omega arith) (All-tail (λ c. IsChunkOf rs files c) c cs each) (Counted-after n front (flat_map (chunk_items rs files) cs) h) in
      (omega (arith, rest.0, length-append front (flat_map (chunk_items rs files) cs)), rest.1)

  -- the numbers of a plan's chunk stay below the count of all bytes
  pub plan_fits : (chunks : List Chunk) (i : ℕ) (d : Chunk) → i < length chunks → IsPlanOf rs files chunks
      → ((get_or chunks i d).nr + length (records_by rs (chunk_bytes files (get_or chunks i d))) ≤ total_size files)
      × ((get_or chunks i d).fnr ≤ (get_or chunks i d).nr)
  plan_fits chunks i d lt plan =
      let counted = counted_chunk 0 chunks i d lt plan.each (subst (Counted 0) (sym plan.whole) (Counted-items_from rs 0 0 files)) in
      (omega (arith, counted.0, ap length plan.whole, length-items_from rs 0 0 files), counted.1)
