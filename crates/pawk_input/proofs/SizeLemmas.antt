-- One step of the plan by size.
use Rattle.std.proofs.Common.{◌≡◌, inl, inr, ℕ, zero, suc, ◌+◌, ◌-◌, ◌<◌, ◌≤◌, Bool, true, false, cond, leb, List, [], ◌∷◌, ◌++◌, length, take, drop, get_or, min, refl, ap, arith, sym, ◌∙◌, length-append}
use Rattle.std.proofs.lemmas.Bool.Decides.{leb_tells}
use Rattle.std.proofs.lemmas.List.{take_all, length-take-le, length-drop}
use Rattle.pawk_records.specs.Records.{records_by}
use Rattle.pawk_records.specs.Begins.{BeginsAt, begins_at, begins_by, begins_within, places_where}
use Rattle.pawk_records.proofs.BeginsLemmas.{begins_before, none_before, length-records_by, length-records_part}
use Rattle.pawk_records.proofs.PlaceLemmas.{places_where-append, places_where-none}
use Rattle.pawk_input.specs.declared.cutting.Chunk.{Chunk}
use Rattle.pawk_input.specs.Plan.{IsBeginOrEnd, chunks_at, places_by_size, places_by_size_from}
use Rattle.pawk_input.proofs.DraftLemmas.{moved, one_more_fits}

within : (a b : ℕ) → a ≤ b → leb a b ≡ true
within a b h = elim (leb_tells a b) [ inl y ↦ y.0 | inr n ↦ absurd (omega (arith, n.1)) ]

beyond : (a b : ℕ) → b < a → leb a b ≡ false
beyond a b h = elim (leb_tells a b) [ inl y ↦ absurd (omega (arith, y.1)) | inr n ↦ n.0 ]

not_true : (v : Bool) → (v ≡ true → ⊥) → v ≡ false
not_true true h = absurd (h refl)
not_true false h = refl

-- the next place lies further on
pub next_up : (rs s : List ℕ) (p size q : ℕ) → 0 < size → p < length s → IsBeginOrEnd rs s (p + size) q → p < q
next_up rs s p size q some lt h = elim (leb_tells (length s) q) [
  | inl end ↦ omega (arith, end.1)
  | inr more ↦ omega (arith, (h.begins more.1).0)
]

module _ (rs s : List ℕ) where
  abbrev test : ℕ → Bool
  test = begins_at rs s

  -- the places from p on at which records begin
  abbrev pub begins_left : ℕ → List ℕ
  begins_left p = places_where test p (length s - p)

  -- where one begins it comes first
  first_of : (p : ℕ) → p < length s → test p ≡ true → begins_left p ≡ p ∷ begins_left (p + 1)
  first_of p lt is =
      let more : length s - p ≡ suc (length s - (p + 1)) = omega arith in
      ap (places_where test p) more ∙ rw is refl

  none_left : (p : ℕ) → length s ≤ p → begins_left p ≡ []
  none_left p le = ap (places_where test p) (let z : length s - p ≡ 0 = omega arith in z)

  -- up to the first one there is none
  pub begins_skipped : (p q : ℕ) → p ≤ q → IsBeginOrEnd rs s p q → begins_left p ≡ begins_left q
  begins_skipped p q le h =
      let parts : length s - p ≡ (q - p) + (length s - q) = omega (arith, h.within) in
      let at : p + (q - p) ≡ q = omega arith in
      ap (places_where test p) parts ∙ places_where-append test p (q - p) (length s - q)
      ∙ ap (λ l. l ++ places_where test (p + (q - p)) (length s - q)) (places_where-none test p (q - p) (λ k low high. not_true (test k) (h.none k low (omega arith))))
      ∙ ap (λ i. places_where test i (length s - q)) at

  -- the file's first, or its end
  pub begins_first : (q : ℕ) → IsBeginOrEnd rs s 0 q → begins_by rs s ≡ begins_left q
  begins_first q h = ap (places_where test 0) (let z : length s ≡ length s - 0 = omega arith in z) ∙ begins_skipped 0 q (omega arith) h

  pub nothing_before : (q : ℕ) → IsBeginOrEnd rs s 0 q → records_by rs (take q s) ≡ []
  nothing_before q h = none_before rs s q h.within (λ k lt. h.none k (omega arith) lt)

  module _ (size : ℕ → ℕ) where
    -- the places of the chunks that are left
    abbrev pub places_left : ℕ → List ℕ
    places_left p = places_by_size size (begins_left p)

    -- those that lie too near are passed over
    near : (from i n : ℕ) (l : List ℕ) → ((k : ℕ) → i ≤ k → k < i + n → test k ≡ true → k < from + size from) → places_by_size_from size from (places_where test i n ++ l) ≡ places_by_size_from size from l
    near from i zero l low = refl
    near from i (suc n) l low =
        let later = near from (i + 1) n l (λ k le lt is. low k (omega arith) (omega arith) is) in
        elim (test i) as (λ v. (test i ≡ v) → places_by_size_from size from (cond v (i ∷ places_where test (i + 1) n) (places_where test (i + 1) n) ++ l) ≡ places_by_size_from size from l) [
          | true ↦ (λ e. rw (beyond (from + size from) i (low i (omega arith) (omega arith) e)) later)
          | false ↦ (λ e. later)
        ] refl

    -- the next chunk begins at the first record that begins at least its size past this one
    far : (p q : ℕ) → IsBeginOrEnd rs s (p + size p) q → places_by_size_from size p (begins_left q) ≡ places_left q
    far p q h = elim (leb_tells (length s) q) [
      | inl end ↦ ap (places_by_size_from size p) (none_left q end.1) ∙ sym (ap (places_by_size size) (none_left q end.1))
      | inr more ↦ (let there = h.begins more.1 in
          ap (places_by_size_from size p) (first_of q more.1 there.1) ∙ rw (within (p + size p) q there.0) (sym (ap (places_by_size size) (first_of q more.1 there.1))))
    ]

    too_near : (v : ℕ) (p q : ℕ) → IsBeginOrEnd rs s (p + size p) q → v < q → test v ≡ true → v < p + size p
    too_near v p q h lt is = elim (leb_tells (p + size p) v) [
      | inl past ↦ absurd (h.none v past.1 lt is)
      | inr low ↦ low.1
    ]

    pub next_place : (p q : ℕ) → p < length s → BeginsAt rs s p → p < q → IsBeginOrEnd rs s (p + size p) q → places_left p ≡ p ∷ places_left q
    next_place p q lt is up h =
        let parts : length s - (p + 1) ≡ (q - (p + 1)) + (length s - q) = omega (arith, h.within) in
        let at : p + 1 + (q - (p + 1)) ≡ q = omega arith in
        ap (places_by_size size) (first_of p lt is)
        ∙ ap (λ l. p ∷ places_by_size_from size p l) (ap (places_where test (p + 1)) parts ∙ places_where-append test (p + 1) (q - (p + 1)) (length s - q)
        ∙ ap (λ i. places_where test (p + 1) (q - (p + 1)) ++ places_where test i (length s - q)) at)
        ∙ ap (λ l. p ∷ l) (near p (p + 1) (q - (p + 1)) (begins_left q) (λ k low high pass. too_near k p q h (omega arith) pass) ∙ far p q h)

    reach : (q : ℕ) → q ≤ length s → (q < length s → BeginsAt rs s q) → get_or (places_left q) 0 (length s) ≡ q
    reach q le is = elim (leb_tells (length s) q) [
      | inl end ↦ ap (λ l. get_or (places_by_size size l) 0 (length s)) (none_left q end.1) ∙ (let e : length s ≡ q = omega (arith, end.1) in e)
      | inr more ↦ ap (λ l. get_or (places_by_size size l) 0 (length s)) (first_of q more.1 (is more.1))
    ]

    pub no_places : (p : ℕ) → length s ≤ p → places_left p ≡ []
    no_places p le = ap (places_by_size size) (none_left p le)

    pub next_chunk : (k nr p q : ℕ) → p < length s → BeginsAt rs s p → p < q → IsBeginOrEnd rs s (p + size p) q
        → chunks_at rs k s nr (places_left p) ≡ record {
          file = k;
          range = record { start = p; end = q };
          nr = nr + length (records_by rs (take p s));
          fnr = length (records_by rs (take p s));
        } ∷ chunks_at rs k s nr (places_left q)
    next_chunk k nr p q lt is up h =
        ap (chunks_at rs k s nr) (next_place p q lt is up h)
        ∙ ap (λ e. record {
          file = k;
          range = record { start = p; end = e };
          nr = nr + length (records_by rs (take p s));
          fnr = length (records_by rs (take p s));
        } ∷ chunks_at rs k s nr (places_left q)) (reach q h.within (λ more. (h.begins more).1))

-- a place past every file is as good as the greatest number
pub from_greatest : (rs s : List ℕ) (from q : ℕ) → length s < 18446744073709551615 → IsBeginOrEnd rs s (min from 18446744073709551615) q → IsBeginOrEnd rs s from q
from_greatest rs s from q few h = record {
  within = h.within;
  none = λ k le lt. h.none k (omega arith) lt;
  begins = λ lt. (let b = h.begins lt in (omega (arith, b.0), b.1));
}

-- a turn of a loop over the chunks: the next chunk, of those that are left, begins at p and ends at q
module _ (rs s : List ℕ) (size : ℕ → ℕ) (k nr p q : ℕ) (old all : List Chunk) (some : 0 < size p) (few : length s < 18446744073709551615) (lt : p < length s) (begins : BeginsAt rs s p)
    (ends : IsBeginOrEnd rs s (min (p + size p) 18446744073709551615) q) (is : old ++ chunks_at rs k s nr (places_left rs s size p) ≡ all) where
  ends_far : IsBeginOrEnd rs s (p + size p) q
  ends_far = from_greatest rs s (p + size p) q few ends

  pub chunk_up : p < q
  chunk_up = next_up rs s p (size p) q some lt ends_far

  next : chunks_at rs k s nr (places_left rs s size p) ≡ record {
    file = k;
    range = record { start = p; end = q };
    nr = nr + length (records_by rs (take p s));
    fnr = length (records_by rs (take p s));
  } ∷ chunks_at rs k s nr (places_left rs s size q)
  next = next_chunk rs s size k nr p q lt begins chunk_up ends_far

  -- it moves from those to come to those that are there
  pub chunk_moved : (new : List Chunk) (fnr : ℕ) → fnr ≡ length (records_by rs (take p s))
      → new ≡ old ++ record { file = k; range = record { start = p; end = q }; nr = nr + fnr; fnr = fnr } ∷ []
      → new ++ chunks_at rs k s nr (places_left rs s size q) ≡ all
  chunk_moved new fnr count added = moved old new all _ _ _ is next (rw count at added)

  -- there is at least one more than the old ones
  pub chunk_fits : length old + 1 ≤ length all
  chunk_fits = one_more_fits old all _ _ _ is next

module _ (rs s : List ℕ) (p q : ℕ) (up : p < q) (le : q ≤ length s) where
  pub part_end : p + length (take (q - p) (drop p s)) ≡ q
  part_end = omega (arith, length-take-le (q - p) (drop p s) (omega (arith, length-drop p s)))

  -- the records before a later place
  pub part_count : (fnr n : ℕ) → BeginsAt rs s p → fnr ≡ length (records_by rs (take p s)) → n ≡ fnr + length (records_by rs (take (q - p) (drop p s))) → n ≡ length (records_by rs (take q s))
  part_count fnr n is before grown =
      let there : p + (q - p) ≡ q = omega arith in
      let parts : length (records_by rs (take q s)) ≡ length (records_by rs (take p s)) + length (records_by rs (take (q - p) (drop p s))) =
      rw there at (length-records_part rs s p (q - p) is (omega arith) (omega arith)) in
      omega arith

-- as many records begin in a part as it has, where it begins with one
pub part_begins : (rs s : List ℕ) (p q : ℕ) → BeginsAt rs s p → p < q → q ≤ length s → length (begins_within rs s p q) ≡ length (records_by rs (take (q - p) (drop p s)))
part_begins rs s p q is up le =
    let f = begins_at rs s in
    let there : p + (q - p) ≡ q = omega arith in
    let at : 0 + p ≡ p = omega arith in
    let parts : length (records_by rs (take q s)) ≡ length (records_by rs (take p s)) + length (records_by rs (take (q - p) (drop p s))) =
    rw there at (length-records_part rs s p (q - p) is (omega arith) (omega arith)) in
    let both : length (places_where f 0 q) ≡ length (places_where f 0 p) + length (places_where f p (q - p)) =
    ap (λ n. length (places_where f 0 n)) (sym there) ∙ ap length (places_where-append f 0 p (q - p)) ∙ length-append (places_where f 0 p) (places_where f (0 + p) (q - p))
    ∙ ap (λ i. length (places_where f 0 p) + length (places_where f i (q - p))) at in
    omega (arith, parts, both, begins_before rs s p (omega arith), begins_before rs s q le)

-- no more records than bytes are before a place
pub few_before : (rs s : List ℕ) (q n : ℕ) → q ≤ length s → n ≡ length (records_by rs (take q s)) → n ≤ q
few_before rs s q n le is = omega (arith, length-records_by rs (take q s), length-take-le q s le)

pub all_before : (rs s : List ℕ) (q n : ℕ) → length s ≤ q → n ≡ length (records_by rs (take q s)) → n ≡ length (records_by rs s)
all_before rs s q n le is = is ∙ ap (λ l. length (records_by rs l)) (take_all q s le)
