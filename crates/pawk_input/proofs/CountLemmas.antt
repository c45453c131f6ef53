-- Counts of the blocks of a file.
use Rattle.std.proofs.Common.{◌≡◌, ◌⊎◌, inl, inr, ℕ, zero, suc, ◌+◌, ◌-◌, ◌<◌, ◌≤◌, true, false, ltb, min, List, [], ◌∷◌, ◌++◌, length, take, drop, get_or, refl, ap, arith, sym, ◌∙◌, length-append, append_assoc}
use Rattle.std.proofs.lemmas.Bool.Decides.{leb_tells}
use Rattle.std.proofs.lemmas.List.{drop_more}
use Rattle.pawk_records.specs.Records.{records_by}
use Rattle.pawk_records.specs.Begins.{begins_at, begins_within, places_where}
use Rattle.pawk_records.proofs.PlaceLemmas.{places_where-append, length-places_where}
use Rattle.pawk_records.proofs.BeginsLemmas.{begins_before}
use Rattle.pawk_input.specs.Input.{File, file_at, empty_file}
use Rattle.pawk_input.specs.Counts.{blocks_of, block_counts, counts_along, counts_left}

ltb_tells : (a b : ℕ) → ((ltb a b ≡ true) × (a < b)) ⊎ ((ltb a b ≡ false) × (b ≤ a))
ltb_tells a b = elim (leb_tells (suc a) b) [ inl y ↦ inl (y.0, omega (arith, y.1)) | inr n ↦ inr (n.0, omega (arith, n.1)) ]

module _ (rs : List ℕ) (block : ℕ) (some : 0 < block) (bytes : List ℕ) where
  -- as many steps as there are bytes are enough
  counts_same : (f g from : ℕ) → length bytes - from ≤ f → length bytes - from ≤ g → counts_along rs block bytes from f ≡ counts_along rs block bytes from g
  counts_same zero zero from a b = refl
  counts_same zero (suc g) from a b = elim (ltb_tells from (length bytes)) [ inl y ↦ absurd (omega (arith, y.1)) | inr n ↦ rw n.0 refl ]
  counts_same (suc f) zero from a b = elim (ltb_tells from (length bytes)) [ inl y ↦ absurd (omega (arith, y.1)) | inr n ↦ rw n.0 refl ]
  counts_same (suc f) (suc g) from a b = elim (ltb_tells from (length bytes)) [
    | inl y ↦ rw y.0 (ap (λ l. length (begins_within rs bytes from (min (from + block) (length bytes))) ∷ l) (counts_same f g (from + block) (omega (arith, y.1)) (omega (arith, y.1))))
    | inr n ↦ rw n.0 refl
  ]

  -- the next block, and those after it
  pub counts_step : (from : ℕ) → from < length bytes → counts_left rs block bytes from ≡ length (begins_within rs bytes from (min (from + block) (length bytes))) ∷ counts_left rs block bytes (from + block)
  counts_step from lt =
      let n : length bytes - from ≡ suc (length bytes - from - 1) = omega arith in
      ap (counts_along rs block bytes from) n
      ∙ elim (ltb_tells from (length bytes)) [
        | inl y ↦ rw y.0 (ap (λ l. length (begins_within rs bytes from (min (from + block) (length bytes))) ∷ l) (counts_same (length bytes - from - 1) (length bytes - (from + block)) (from + block) (omega arith) (omega arith)))
        | inr n ↦ absurd (omega (arith, n.1))
      ]

  -- a block that lies before a place counts whole
  pub count_step : (edge count first : ℕ) (later : List ℕ) → edge + block ≤ length bytes → count ≡ length (places_where (begins_at rs bytes) 0 edge)
      → counts_left rs block bytes edge ≡ first ∷ later → count + first ≡ length (places_where (begins_at rs bytes) 0 (edge + block))
  count_step edge count first later le is left =
      let whole : min (edge + block) (length bytes) ≡ edge + block = omega arith in
      let size : edge + block - edge ≡ block = omega arith in
      let head : first ≡ length (places_where (begins_at rs bytes) edge block) =
      ap (λ l. get_or l 0 0) (sym left ∙ counts_step edge (omega arith))
      ∙ ap (λ e. length (begins_within rs bytes edge e)) whole ∙ ap (λ n. length (places_where (begins_at rs bytes) edge n)) size in
      let both = ap length (places_where-append (begins_at rs bytes) 0 edge block) ∙ length-append (places_where (begins_at rs bytes) 0 edge) (places_where (begins_at rs bytes) (0 + edge) block) in
      let there : length (places_where (begins_at rs bytes) (0 + edge) block) ≡ length (places_where (begins_at rs bytes) edge block) = ap (λ i. length (places_where (begins_at rs bytes) i block)) (let z : 0 + edge ≡ edge = omega arith in z) in
      omega (arith, both, there, head, is)

  pub later_step : (edge first : ℕ) (later : List ℕ) → edge < length bytes → counts_left rs block bytes edge ≡ first ∷ later → later ≡ counts_left rs block bytes (edge + block)
  later_step edge first later lt left = ap (drop 1) (sym left ∙ counts_step edge lt)

  pub few_counted : (edge count : ℕ) → count ≡ length (places_where (begins_at rs bytes) 0 edge) → count ≤ edge
  few_counted edge count is = omega (arith, length-places_where (begins_at rs bytes) 0 edge)

  -- the records before a place are those before the blocks' end and those between
  pub count_between : (edge place count more : ℕ) → edge ≤ place → place ≤ length bytes → count ≡ length (places_where (begins_at rs bytes) 0 edge)
      → more ≡ length (begins_within rs bytes edge place) → count + more ≡ length (records_by rs (take place bytes))
  count_between edge place count more low high is between =
      let n : edge + (place - edge) ≡ place = omega arith in
      let both = ap (λ m. length (places_where (begins_at rs bytes) 0 m)) (sym n) ∙ ap length (places_where-append (begins_at rs bytes) 0 edge (place - edge)) ∙ length-append (places_where (begins_at rs bytes) 0 edge) (places_where (begins_at rs bytes) (0 + edge) (place - edge)) in
      let there : length (places_where (begins_at rs bytes) (0 + edge) (place - edge)) ≡ length (begins_within rs bytes edge place) = ap (λ i. length (places_where (begins_at rs bytes) i (place - edge))) (let z : 0 + edge ≡ edge = omega arith in z) in
      omega (arith, both, there, is, between, begins_before rs bytes place high)

-- ---- how many blocks there are

module _ (block : ℕ) (some : 0 < block) where
  blocks_same : (f g n : ℕ) → n ≤ f → n ≤ g → blocks_of block n f ≡ blocks_of block n g
  blocks_same zero zero n a b = refl
  blocks_same zero (suc g) n a b = elim (ltb_tells 0 n) [ inl y ↦ absurd (omega (arith, y.1)) | inr z ↦ rw z.0 refl ]
  blocks_same (suc f) zero n a b = elim (ltb_tells 0 n) [ inl y ↦ absurd (omega (arith, y.1)) | inr z ↦ rw z.0 refl ]
  blocks_same (suc f) (suc g) n a b = elim (ltb_tells 0 n) [
    | inl y ↦ rw y.0 (ap (λ m. 1 + m) (blocks_same f g (n - block) (omega (arith, y.1)) (omega (arith, y.1))))
    | inr z ↦ rw z.0 refl
  ]

  pub blocks_step : (n : ℕ) → 0 < n → blocks_of block n n ≡ 1 + blocks_of block (n - block) (n - block)
  blocks_step n lt =
      let m : n ≡ suc (n - 1) = omega arith in
      ap (λ f. blocks_of block n f) m
      ∙ elim (ltb_tells 0 n) [
        | inl y ↦ rw y.0 (ap (λ k. 1 + k) (blocks_same (n - 1) (n - block) (n - block) (omega arith) (omega arith)))
        | inr z ↦ absurd (omega (arith, z.1))
      ]

  pub few_blocks : (f n : ℕ) → n ≤ f → blocks_of block n f ≤ n
  few_blocks zero n le = omega arith
  few_blocks (suc f) n le = elim (ltb_tells 0 n) [
    | inl y ↦ rw y.0 (let later = few_blocks f (n - block) (omega (arith, y.1)) in omega (arith, y.1))
    | inr z ↦ rw z.0 (omega arith)
  ]

  length-counts_along : (rs bytes : List ℕ) (f from : ℕ) → length (counts_along rs block bytes from f) ≡ blocks_of block (length bytes - from) f
  length-counts_along rs bytes zero from = refl
  length-counts_along rs bytes (suc f) from =
      let n : length bytes - (from + block) ≡ length bytes - from - block = omega arith in
      elim (ltb_tells from (length bytes)) [
        | inl y ↦ elim (ltb_tells 0 (length bytes - from)) [
          | inl p ↦ rw (y.0, p.0) (let later = length-counts_along rs bytes f (from + block) in let same = ap (λ m. blocks_of block m f) n in omega arith)
          | inr z ↦ absurd (omega (arith, y.1, z.1))
        ]
        | inr y ↦ elim (ltb_tells 0 (length bytes - from)) [
          | inl p ↦ absurd (omega (arith, y.1, p.1))
          | inr z ↦ rw (y.0, z.0) refl
        ]
      ]

  pub length-counts_left : (rs bytes : List ℕ) → length (counts_left rs block bytes 0) ≡ blocks_of block (length bytes) (length bytes)
  length-counts_left rs bytes =
      length-counts_along rs bytes (length bytes - 0) 0
      ∙ ap (λ n. blocks_of block n (length bytes - 0)) (let z : length bytes - 0 ≡ length bytes = omega arith in z)
      ∙ ap (λ n. blocks_of block (length bytes) n) (let z : length bytes - 0 ≡ length bytes = omega arith in z)

-- ---- the counts of all files

front_of : (a b : List ℕ) → take (length a) (a ++ b) ≡ a
front_of [] b = refl
front_of (x ∷ a) b = ap (λ l. x ∷ l) (front_of a b)

back_of : (a b : List ℕ) → drop (length a) (a ++ b) ≡ b
back_of [] b = refl
back_of (x ∷ a) b = back_of a b

module _ (rs : List ℕ) (block : ℕ) (some : 0 < block) (files : List File) (file : ℕ) (bytes left : List ℕ)
    (there : file < length files) (is_bytes : bytes ≡ (file_at files file).bytes) (is : left ≡ block_counts rs block (drop file files)) where
  abbrev number : ℕ
  number = blocks_of block (length bytes) (length bytes)

  -- the counts that are left are those of the next file, and those after it
  parts : left ≡ counts_left rs block bytes 0 ++ block_counts rs block (drop (file + 1) files)
  parts =
      is ∙ ap (block_counts rs block) (drop_more files file empty_file there)
      ∙ ap (λ s. counts_left rs block s 0 ++ block_counts rs block (drop (file + 1) files)) (sym is_bytes)

  long : length (counts_left rs block bytes 0) ≡ number
  long = length-counts_left block some rs bytes

  pub enough_left : number ≤ length left
  enough_left = omega (arith, long, ap length parts, length-append (counts_left rs block bytes 0) (block_counts rs block (drop (file + 1) files)))

  pub counts_here : take number left ≡ counts_left rs block bytes 0
  counts_here =
      ap (take number) parts ∙ ap (λ n. take n (counts_left rs block bytes 0 ++ block_counts rs block (drop (file + 1) files))) (sym long)
      ∙ front_of (counts_left rs block bytes 0) (block_counts rs block (drop (file + 1) files))

  pub counts_later : drop number left ≡ block_counts rs block (drop (file + 1) files)
  counts_later =
      ap (drop number) parts ∙ ap (λ n. drop n (counts_left rs block bytes 0 ++ block_counts rs block (drop (file + 1) files))) (sym long)
      ∙ back_of (counts_left rs block bytes 0) (block_counts rs block (drop (file + 1) files))

-- a block's count, and those after it, where the block ends at the file's end at the latest
pub counts_to : (rs : List ℕ) (block : ℕ) (some : 0 < block) (bytes : List ℕ) (from end : ℕ) → from < length bytes → end ≡ min (from + block) (length bytes)
    → counts_left rs block bytes from ≡ length (begins_within rs bytes from end) ∷ counts_left rs block bytes end
counts_to rs block some bytes from end lt is =
    counts_step rs block some bytes from lt ∙ ap (λ e. length (begins_within rs bytes from e) ∷ counts_left rs block bytes (from + block)) (sym is)
    ∙ ap (λ l. length (begins_within rs bytes from end) ∷ l) (elim (leb_tells (from + block) (length bytes)) [
      | inl y ↦ ap (counts_left rs block bytes) (let e : from + block ≡ end = omega (arith, y.1, is) in e)
      | inr n ↦ (let a : length bytes - (from + block) ≡ 0 = omega (arith, n.1) in
          let b : length bytes - end ≡ 0 = omega (arith, n.1, is) in
          ap (counts_along rs block bytes (from + block)) a ∙ sym (ap (counts_along rs block bytes end) b))
    ])

-- one more count was moved from what is to come to what is there
pub count_moved : (old new all more rest : List ℕ) (n : ℕ) → old ++ rest ≡ all → rest ≡ n ∷ more → new ≡ old ++ n ∷ [] → new ++ more ≡ all
count_moved old new all more rest n is first added =
    ap (λ l. l ++ more) added ∙ append_assoc old (n ∷ []) more ∙ ap (λ l. old ++ l) (sym first) ∙ is
