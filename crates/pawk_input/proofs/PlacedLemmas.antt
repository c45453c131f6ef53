-- Chunks that come after other records, and chunks that come one after the other.
use Rattle.std.proofs.Common.{◌≡◌, ℕ, zero, suc, ◌+◌, ◌-◌, ◌<◌, ◌≤◌, List, [], ◌∷◌, ◌++◌, length, length-append, take, drop, set, get_or, slice_get, Some, refl, ap, arith, sym, ◌∙◌, subst, All, inl, inr}
use Rattle.std.proofs.lemmas.List.{append-nil, drop_all, drop_more, get_or-drop, length-map, drop-drop, length-drop, length-take-le, take-take, drop-take}
use Rattle.std.proofs.Math.Seq.{take-append_seam}
use Rattle.std.proofs.lemmas.Option.{get_or_from_slice_get}
use Rattle.std.proofs.lemmas.List.Elements.{All-head, All-tail, All-map}
use Rattle.std.specs.List.{flat_map, slice_range, slice_index_or}
use Rattle.pawk_records.specs.Records.{records_by}
use Rattle.pawk_records.specs.Begins.{BeginsAt, begins_by}
use Rattle.pawk_records.proofs.BeginsLemmas.{begins_law_lem, begins_in_rest, begins_in_front, records_at}
use Rattle.pawk_input.specs.Limits.{most_bytes}
use Rattle.pawk_input.specs.Input.{File, Item, file_at, file_items, items, total_size}
use Rattle.pawk_input.specs.Plan.{IsPlanOf, IsChunkOf, IsPlaced, ArePlaced, AreChunksOf, FollowOn, AreConsecutive, Adjoin, AreAdjoining, chunk_after, plan_after, chunk_bytes, chunk_items, chunks_at, chunks_of}
use Rattle.pawk_input.specs.declared.cutting.Chunk.{Chunk}
use Rattle.pawk_input.proofs.ItemsLemmas.{length-file_items}
use Rattle.pawk_input.proofs.PlanLemmas.{file_items-append, plan_fits}

-- ---- numbers

module _ (rs : List ℕ) (files : List File) where
  count_items : (c : Chunk) → length (chunk_items rs files c) ≡ length (records_by rs (chunk_bytes files c))
  count_items c = length-file_items c.file (file_at files c.file).name c.nr c.fnr (records_by rs (chunk_bytes files c))

  -- the chunks of a plan of an input that is not too large
  pub placed : (chunks : List Chunk) → total_size files ≤ most_bytes → IsPlanOf rs files chunks → ArePlaced rs files chunks
  placed chunks le plan = λ i d lt. (
      let fits = plan_fits rs files chunks i d lt plan in
      record { chunk = plan.each i d lt; fits = omega (arith, fits.0, le); in_file = fits.1 })

  -- the same where they are placed already
  pub placed_of : (chunks : List Chunk) → total_size files ≤ most_bytes → AreChunksOf rs files chunks → ArePlaced rs files chunks
  placed_of chunks le (inl plan) = placed chunks le plan
  placed_of chunks le (inr are) = are

  module _ (nr fnr : ℕ) where
    is_chunk_after : (c : Chunk) → IsChunkOf rs files c → IsChunkOf rs files (chunk_after nr fnr c)
    is_chunk_after c h = record {
      exists = h.exists;
      rises = h.rises;
      within = h.within;
      begins = h.begins;
      some = omega (arith, h.some, count_items c, count_items (chunk_after nr fnr c));
    }

    -- and after so many records
    pub placed_after : (chunks : List Chunk) → fnr ≤ nr → nr + total_size files ≤ most_bytes → IsPlanOf rs files chunks → ArePlaced rs files (plan_after nr fnr chunks)
    placed_after chunks low le plan =
        All-map (λ c. IsPlaced rs files c) (chunk_after nr fnr) chunks
        (λ i d lt. (
        let fits = plan_fits rs files chunks i d lt plan in
        record {
          chunk = is_chunk_after (get_or chunks i d) (plan.each i d lt);
          fits = omega (arith, fits.0, le);
          in_file = omega (arith, fits.1, low);
        }))

    follow_after : (c : Chunk) (cs : List Chunk) → FollowOn rs files c cs → FollowOn rs files (chunk_after nr fnr c) (plan_after nr fnr cs)
    follow_after c [] h = tt
    follow_after c (d ∷ ds) h = (
      record {
        file = h.0.file;
        begins = h.0.begins;
        nr = omega (arith, h.0.nr, count_items c, count_items (chunk_after nr fnr c));
        fnr = omega (arith, h.0.fnr, count_items c, count_items (chunk_after nr fnr c));
      },
      follow_after d ds h.1,
    )

    pub consecutive_after : (chunks : List Chunk) → AreConsecutive rs files chunks → AreConsecutive rs files (plan_after nr fnr chunks)
    consecutive_after [] h = tt
    consecutive_after (c ∷ cs) h = follow_after c cs h

-- behind the first of a file's records are those that come after them
items_behind : (file : ℕ) (name : List ℕ) (n m : ℕ) (records : List (List ℕ)) (front behind : List Item) → front ++ behind ≡ file_items file name n m records
    → behind ≡ file_items file name (n + length front) (m + length front) (drop (length front) records)
items_behind file name n m records [] behind h =
    let a : n ≡ n + 0 = omega arith in
    let b : m ≡ m + 0 = omega arith in
    h ∙ ap (λ i. file_items file name i m records) a ∙ ap (λ i. file_items file name (n + 0) i records) b
items_behind file name n m [] (x ∷ front) behind h = absurd (omega (arith, ap length h))
items_behind file name n m (r ∷ records) (x ∷ front) behind h =
    let a : n + 1 + length front ≡ n + length (x ∷ front) = omega arith in
    let b : m + 1 + length front ≡ m + length (x ∷ front) = omega arith in
    let rest = drop (length front) records in
    items_behind file name (n + 1) (m + 1) records front behind (ap (drop 1) h)
    ∙ ap (λ i. file_items file name i (m + 1 + length front) rest) a
    ∙ ap (λ i. file_items file name (n + length (x ∷ front)) i rest) b

no_item : Item
no_item = record { bytes = []; file = 0; name = []; nr = 0; fnr = 0 }

-- the first of them has the number after those before it
items_begin : (file k : ℕ) (name other : List ℕ) (a b n m : ℕ) (front records : List (List ℕ)) (behind : List Item) → 0 < length (file_items k other a b front)
    → file_items k other a b front ++ behind ≡ file_items file name n m records → (a ≡ n) × (b ≡ m)
items_begin file k name other a b n m [] records behind some h = absurd (omega (arith, some))
items_begin file k name other a b n m (x ∷ front) [] behind some h = absurd (omega (arith, ap length h))
items_begin file k name other a b n m (x ∷ front) (r ∷ records) behind some h = (
  omega (arith, ap (λ l. (get_or l 0 no_item).nr) h),
  omega (arith, ap (λ l. (get_or l 0 no_item).fnr) h),
)

-- ---- one after the other

module _ (rs : List ℕ) (files : List File) where
  module _ (one : length files ≡ 1) (name : List ℕ) where
    follow : (c : Chunk) (cs : List Chunk) (n m : ℕ) (records : List (List ℕ)) → All (λ c. IsChunkOf rs files c) (c ∷ cs) → Adjoin c cs
        → flat_map (chunk_items rs files) (c ∷ cs) ≡ file_items 0 name n m records → FollowOn rs files c cs
    follow c [] n m records each adjoin is = tt
    follow c (d ∷ ds) n m records each adjoin is =
        let Q : Chunk → Type 0 = λ c. IsChunkOf rs files c in
        let front = chunk_items rs files c in
        let first = All-head Q c (d ∷ ds) each in
        let later = All-tail Q c (d ∷ ds) each in
        let next = All-head Q d ds later in
        let at = items_begin 0 c.file name (file_at files c.file).name c.nr c.fnr n m (records_by rs (chunk_bytes files c)) records (flat_map (chunk_items rs files) (d ∷ ds)) first.some is in
        let behind = items_behind 0 name n m records front (flat_map (chunk_items rs files) (d ∷ ds)) is in
        let then = items_begin 0 d.file name (file_at files d.file).name d.nr d.fnr (n + length front) (m + length front) (records_by rs (chunk_bytes files d)) (drop (length front) records) (flat_map (chunk_items rs files) ds) next.some behind in
        let same : d.file ≡ c.file = omega (arith, one, first.exists, next.exists) in (
          record { file = same; begins = adjoin.0 same; nr = omega (arith, at.0, then.0); fnr = omega (arith, at.1, then.1) },
          follow d ds (n + length front) (m + length front) (drop (length front) records) later adjoin.1 behind,
        )

  -- the chunks of a plan of one file come one after the other
  pub consecutive : length files ≡ 1 → (chunks : List Chunk) → IsPlanOf rs files chunks → AreAdjoining chunks → AreConsecutive rs files chunks
  consecutive one [] plan adjoin = tt
  consecutive one (c ∷ cs) plan adjoin =
      follow one (file_at files 0).name c cs 0 0 (records_by rs (file_at files 0).bytes) plan.each adjoin
      (plan.whole ∙ alone files one)
    where
      alone : (fs : List File) → length fs ≡ 1 → items rs fs ≡ file_items 0 (file_at fs 0).name 0 0 (records_by rs (file_at fs 0).bytes)
      alone [] h = absurd (omega (arith, h))
      alone (f ∷ []) h = append-nil (file_items 0 f.name 0 0 (records_by rs f.bytes))
      alone (f ∷ g ∷ fs) h = absurd (omega (arith, h))

-- where the last of them ends
abbrev pub end_of_last : Chunk → List Chunk → ℕ
end_of_last c [] = c.range.end
end_of_last c (d ∷ ds) = end_of_last d ds

-- the records from a chunk on, up to the last one's end, are those of the chunks
pub record AreOneRun (rs : List ℕ) (files : List File) (k : ℕ) (c : Chunk) (cs : List Chunk) : Type 0 where
  pub rises : c.range.start < end_of_last c cs
  pub within : end_of_last c cs ≤ length (file_at files k).bytes
  pub items : flat_map (chunk_items rs files) (c ∷ cs) ≡ file_items k (file_at files k).name c.nr c.fnr (records_by rs (slice_range (file_at files k).bytes c.range.start (end_of_last c cs)))
  pub fits : c.nr + length (records_by rs (slice_range (file_at files k).bytes c.range.start (end_of_last c cs))) ≤ most_bytes

-- these chunks' records are those of the file of a from a's begin to this end
pub record IsRun (rs : List ℕ) (files : List File) (a : Chunk) (end : ℕ) (chunks : List Chunk) : Type 0 where
  pub rises : a.range.start < end
  pub items : flat_map (chunk_items rs files) chunks ≡ file_items a.file (file_at files a.file).name a.nr a.fnr (records_by rs (slice_range (file_at files a.file).bytes a.range.start end))
  pub fits : a.nr + length (records_by rs (slice_range (file_at files a.file).bytes a.range.start end)) ≤ most_bytes
  pub in_file : a.fnr ≤ a.nr

module _ (rs : List ℕ) (files : List File) (k : ℕ) where
  abbrev bytes : List ℕ
  bytes = (file_at files k).bytes

  -- records up to q, where one begins, and from there on
  records_parted : (p q e : ℕ) → p < q → q < e → e ≤ length bytes → BeginsAt rs bytes q
      → records_by rs (slice_range bytes p e) ≡ records_by rs (slice_range bytes p q) ++ records_by rs (slice_range bytes q e)
  records_parted p q e low high within begins =
      let rest = drop p bytes in
      let part = take (e - p) rest in
      let long : length part ≡ e - p = length-take-le (e - p) rest (omega (arith, length-drop p bytes)) in
      let there : BeginsAt rs part (q - p) = begins_in_front rs rest (q - p) (e - p) (begins_in_rest rs bytes p q begins (omega arith)) (omega arith) in
      let sum : e - p ≡ (q - p) + (e - q) = omega arith in
      let at : p + (q - p) ≡ q = omega arith in
      records_at rs part (q - p) there (omega (arith, long))
      ∙ ap (λ l. records_by rs l ++ records_by rs (drop (q - p) part)) (take-take (q - p) (e - p) rest (omega arith))
      ∙ ap (λ n. records_by rs (take (q - p) rest) ++ records_by rs (drop (q - p) (take n rest))) sum
      ∙ ap (λ l. records_by rs (take (q - p) rest) ++ records_by rs l) (drop-take (q - p) (e - q) rest ∙ ap (take (e - q)) (drop-drop (q - p) p bytes ∙ ap (λ i. drop i bytes) at))

  chunk_in : (c : Chunk) → c.file ≡ k → chunk_items rs files c ≡ file_items k (file_at files k).name c.nr c.fnr (records_by rs (slice_range bytes c.range.start c.range.end))
  chunk_in c is = ap (λ j. file_items j (file_at files j).name c.nr c.fnr (records_by rs (slice_range (file_at files j).bytes c.range.start c.range.end))) is

  pub one_run : (c : Chunk) (cs : List Chunk) → c.file ≡ k → ArePlaced rs files (c ∷ cs) → FollowOn rs files c cs → AreOneRun rs files k c cs
  one_run c [] is each on =
      let P : Chunk → Type 0 = λ c. IsPlaced rs files c in
      let first = All-head P c [] each in
      record {
        rises = first.chunk.rises;
        within = subst (λ j. c.range.end ≤ length (file_at files j).bytes) is first.chunk.within;
        items = append-nil (chunk_items rs files c) ∙ chunk_in c is;
        fits = subst (λ j. c.nr + length (records_by rs (slice_range (file_at files j).bytes c.range.start c.range.end)) ≤ most_bytes) is first.fits;
      }
  one_run c (d ∷ ds) is each on =
      let P : Chunk → Type 0 = λ c. IsPlaced rs files c in
      let first = All-head P c (d ∷ ds) each in
      let later = All-tail P c (d ∷ ds) each in
      let next = All-head P d ds later in
      let there : d.file ≡ k = on.0.file ∙ is in
      let run = one_run d ds there later on.1 in
      let p = c.range.start in
      let q = d.range.start in
      let e = end_of_last d ds in
      let here : q ≡ c.range.end = on.0.begins in
      let part = records_by rs (slice_range bytes p q) in
      let rest = records_by rs (slice_range bytes q e) in
      let begins : BeginsAt rs bytes q = subst (λ j. BeginsAt rs (file_at files j).bytes q) there (((begins_law_lem rs (file_at files d.file).bytes).just q).0 next.chunk.begins).1 in
      let up : p < q = omega (arith, first.chunk.rises, here) in
      let parted : records_by rs (slice_range bytes p e) ≡ part ++ rest = records_parted p q e up run.rises run.within begins in
      let mine : chunk_items rs files c ≡ file_items k (file_at files k).name c.nr c.fnr part = chunk_in c is ∙ ap (λ i. file_items k (file_at files k).name c.nr c.fnr (records_by rs (slice_range bytes p i))) (sym here) in
      let count : length (chunk_items rs files c) ≡ length part = ap length mine ∙ length-file_items k (file_at files k).name c.nr c.fnr part in
      let nr : d.nr ≡ c.nr + length part = omega (arith, on.0.nr, count) in
      let fnr : d.fnr ≡ c.fnr + length part = omega (arith, on.0.fnr, count) in
      record {
        rises = omega (arith, up, run.rises);
        within = run.within;
        items = ap (λ l. l ++ flat_map (chunk_items rs files) (d ∷ ds)) mine
            ∙ ap (λ l. file_items k (file_at files k).name c.nr c.fnr part ++ l) (run.items
            ∙ ap (λ n. file_items k (file_at files k).name n d.fnr rest) nr
            ∙ ap (λ n. file_items k (file_at files k).name (c.nr + length part) n rest) fnr)
            ∙ sym (file_items-append k (file_at files k).name c.nr c.fnr part rest)
            ∙ ap (file_items k (file_at files k).name c.nr c.fnr) (sym parted);
        fits = omega (arith, run.fits, nr, ap length parted ∙ length-append part rest);
      }

  rest_on : (c : Chunk) (cs : List Chunk) → FollowOn rs files c cs → AreConsecutive rs files cs
  rest_on c [] on = tt
  rest_on c (d ∷ ds) on = on.1

module _ (rs : List ℕ) (files : List File) where
  run_at : (plan : List Chunk) (i : ℕ) (d : Chunk) → i < length plan → ArePlaced rs files plan → AreConsecutive rs files plan
      → AreOneRun rs files (get_or plan i d).file (get_or plan i d) (drop (suc i) plan)
  run_at [] i d lt each on = absurd (omega arith)
  run_at (c ∷ cs) zero d lt each on = one_run rs files c.file c cs refl each on
  run_at (c ∷ cs) (suc i) d lt each on = run_at cs i d (omega arith) (All-tail (λ c. IsPlaced rs files c) c cs each) (rest_on rs files c.file c cs on)

  last_end : (c : Chunk) (cs : List Chunk) (d : Chunk) → end_of_last c cs ≡ (get_or (c ∷ cs) (length cs) d).range.end
  last_end c [] d = refl
  last_end c (e ∷ es) d = last_end e es d

  -- the records of the chunks from one on, up to where the last one ends
  pub run_from : (plan : List Chunk) (i : ℕ) (a b : Chunk) → i < length plan → slice_get plan i ≡ Some a → slice_get plan (length plan - 1) ≡ Some b
      → ArePlaced rs files plan → AreConsecutive rs files plan → IsRun rs files a b.range.end (drop i plan)
  run_from plan i a b lt first last each on =
      let is : get_or plan i a ≡ a = get_or_from_slice_get plan i a a first in
      let cs = drop (suc i) plan in
      let run : AreOneRun rs files a.file a cs = subst (λ (c : Chunk). AreOneRun rs files c.file c cs) is (run_at plan i a lt each on) in
      let mine : IsPlaced rs files a = subst (λ (c : Chunk). IsPlaced rs files c) is (each i a lt) in
      let up : i + 1 ≡ suc i = omega arith in
      let more : drop i plan ≡ a ∷ cs = drop_more plan i a lt ∙ ap (λ (c : Chunk). c ∷ drop (i + 1) plan) is ∙ ap (λ n. a ∷ drop n plan) up in
      let place : i + length cs ≡ length plan - 1 = omega (arith, length-drop (suc i) plan) in
      let end : end_of_last a cs ≡ b.range.end =
      last_end a cs b ∙ ap (λ (l : List Chunk). (get_or l (length cs) b).range.end) (sym more)
      ∙ ap (λ (c : Chunk). c.range.end) (get_or-drop i plan (length cs) b ∙ ap (λ n. get_or plan n b) place ∙ get_or_from_slice_get plan (length plan - 1) b b last) in
      record {
        rises = subst (λ e. a.range.start < e) end run.rises;
        items = ap (flat_map (chunk_items rs files)) more ∙ run.items
            ∙ ap (λ e. file_items a.file (file_at files a.file).name a.nr a.fnr (records_by rs (slice_range (file_at files a.file).bytes a.range.start e))) end;
        fits = subst (λ e. a.nr + length (records_by rs (slice_range (file_at files a.file).bytes a.range.start e)) ≤ most_bytes) end run.fits;
        in_file = mine.in_file;
      }

-- ---- chunks of a plan adjoin

-- the first of these chunks is of a file after this one
abbrev StartsPast : ℕ → List Chunk → Type 0
StartsPast file [] = Unit {0}
StartsPast file (d ∷ ds) = file < d.file

module _ (rs : List ℕ) (file : ℕ) (bytes : List ℕ) (nr : ℕ) where
  abbrev first_of : ℕ → List ℕ → Chunk
  first_of p ps = record {
    file = file;
    range = record { start = p; end = slice_index_or ps 0 (length bytes) };
    nr = nr + length (records_by rs (take p bytes));
    fnr = length (records_by rs (take p bytes));
  }

  adjoin_at : (p : ℕ) (ps : List ℕ) (later : List Chunk) → StartsPast file later → AreAdjoining later → Adjoin (first_of p ps) (chunks_at rs file bytes nr ps ++ later)
  adjoin_at p [] [] past h = tt
  adjoin_at p [] (d ∷ ds) past h = (λ same. absurd (omega (arith, past, same)), h)
  adjoin_at p (q ∷ qs) later past h = (λ same. refl, adjoin_at q qs later past h)

  adjoining_at : (ps : List ℕ) (later : List Chunk) → StartsPast file later → AreAdjoining later → AreAdjoining (chunks_at rs file bytes nr ps ++ later)
  adjoining_at [] later past h = h
  adjoining_at (p ∷ ps) later past h = adjoin_at p ps later past h

module _ (rs : List ℕ) (chosen : ℕ → List ℕ → List ℕ) where
  starts_past : (k file nr : ℕ) (fs : List File) → k < file → StartsPast k (chunks_of rs chosen file nr fs)
  starts_past k file nr [] lt = tt
  starts_past k file nr (f ∷ fs) lt =
      let later = chunks_of rs chosen (file + 1) (nr + length (records_by rs f.bytes)) fs in
      let past = starts_past k (file + 1) (nr + length (records_by rs f.bytes)) fs (omega arith) in
      elim (chosen file (begins_by rs f.bytes)) as (λ ps. StartsPast k (chunks_at rs file f.bytes nr ps ++ later)) [
        | [] ↦ past
        | p ∷ ps ↦ lt
      ]

  pub adjoining_of : (file nr : ℕ) (fs : List File) → AreAdjoining (chunks_of rs chosen file nr fs)
  adjoining_of file nr [] = tt
  adjoining_of file nr (f ∷ fs) =
      let count = nr + length (records_by rs f.bytes) in
      adjoining_at rs file f.bytes nr (chosen file (begins_by rs f.bytes)) (chunks_of rs chosen (file + 1) count fs)
      (starts_past file (file + 1) count fs (omega arith)) (adjoining_of (file + 1) count fs)

  -- once the chunks of all files are there
  pub adjoining_at_end : (files : List File) (file nr : ℕ) (chunks : List Chunk) → length files ≤ file → chunks ++ chunks_of rs chosen file nr (drop file files) ≡ chunks_of rs chosen 0 0 files
      → AreAdjoining chunks
  adjoining_at_end files file nr chunks past is =
      let none : drop file files ≡ [] = drop_all file files past in
      let whole : chunks ≡ chunks_of rs chosen 0 0 files = sym (append-nil chunks) ∙ ap (λ l. chunks ++ chunks_of rs chosen file nr l) (sym none) ∙ is in
      subst AreAdjoining (sym whole) (adjoining_of 0 0 files)

module _ (nr fnr : ℕ) where
  adjoin_after : (c : Chunk) (cs : List Chunk) → Adjoin c cs → Adjoin (chunk_after nr fnr c) (plan_after nr fnr cs)
  adjoin_after c [] h = tt
  adjoin_after c (d ∷ ds) h = (h.0, adjoin_after d ds h.1)

  pub adjoining_after : (chunks : List Chunk) → AreAdjoining chunks → AreAdjoining (plan_after nr fnr chunks)
  adjoining_after [] h = tt
  adjoining_after (c ∷ cs) h = adjoin_after c cs h

  -- ---- a loop over the chunks

  -- the first i chunks after so many records, and the others as they were
  abbrev pub after_up_to : ℕ → List Chunk → List Chunk
  after_up_to i chunks = plan_after nr fnr (take i chunks) ++ drop i chunks

  later_same : (i : ℕ) (chunks : List Chunk) (d : Chunk) → get_or (after_up_to i chunks) i d ≡ get_or chunks i d
  later_same zero chunks d = refl
  later_same (suc i) [] d = refl
  later_same (suc i) (c ∷ cs) d = later_same i cs d

  one_more : (i : ℕ) (chunks : List Chunk) (d : Chunk) → i < length chunks → set (after_up_to i chunks) i (chunk_after nr fnr (get_or chunks i d)) ≡ after_up_to (suc i) chunks
  one_more i [] d lt = absurd (omega arith)
  one_more zero (c ∷ cs) d lt = refl
  one_more (suc i) (c ∷ cs) d lt = ap (λ l. chunk_after nr fnr c ∷ l) (one_more i cs d (omega arith))

  length_after : (i : ℕ) (chunks : List Chunk) → length (after_up_to i chunks) ≡ length chunks
  length_after zero chunks = refl
  length_after (suc i) [] = refl
  length_after (suc i) (c ∷ cs) = let later = length_after i cs in omega (arith, later)

  counted : (x : Chunk) → record { file = x.file; range = x.range; nr = x.nr + nr; fnr = x.fnr + fnr } ≡ chunk_after nr fnr x
  counted x =
      let a : x.nr + nr ≡ nr + x.nr = omega arith in
      let b : x.fnr + fnr ≡ fnr + x.fnr = omega arith in
      λ j. record { file = x.file; range = x.range; nr = a j; fnr = b j }

  -- one more chunk is changed in place
  pub one_counted : (i : ℕ) (now chunks : List Chunk) (d : Chunk) → i < length now → now ≡ after_up_to i chunks
      → set now i (record { file = (get_or now i d).file; range = (get_or now i d).range; nr = (get_or now i d).nr + nr; fnr = (get_or now i d).fnr + fnr }) ≡ after_up_to (i + 1) chunks
  one_counted i now chunks d lt is =
      let x = get_or now i d in
      let same : x ≡ get_or chunks i d = ap (λ (l : List Chunk). get_or l i d) is ∙ later_same i chunks d in
      let there : i < length chunks = omega (arith, ap length is, length_after i chunks) in
      let up : suc i ≡ i + 1 = omega arith in
      ap (set now i) (counted x)
      ∙ ap (λ (l : List Chunk). set l i (chunk_after nr fnr x)) is
      ∙ ap (λ (y : Chunk). set (after_up_to i chunks) i (chunk_after nr fnr y)) same
      ∙ one_more i chunks d there
      ∙ ap (λ n. after_up_to n chunks) up

  -- what is in the vector then
  pub counted_items : (len : ℕ) (new old now chunks : List Chunk) → length old ≡ len → old ≡ chunks → now ≡ chunks → new ≡ plan_after nr fnr now
      → take len (new ++ drop (length new) old) ≡ plan_after nr fnr chunks
  counted_items len new old now chunks held is same after =
      let all : new ≡ plan_after nr fnr chunks = after ∙ ap (plan_after nr fnr) same in
      let long : len ≡ length new = omega (arith, held, ap length is, ap length all, length-map chunks (chunk_after nr fnr)) in
      ap (λ n. take n (new ++ drop (length new) old)) long ∙ take-append_seam new (drop (length new) old) ∙ all
