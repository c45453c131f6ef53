-- Bytes that are cut where a record ends.
use Rattle.std.proofs.Common.{◌≡◌, ℕ, zero, suc, ◌+◌, ◌-◌, ◌<◌, ◌≤◌, List, [], ◌∷◌, ◌++◌, length, take, drop, get_or, eq-eqb, ap, sym, ◌∙◌, inl, inr, arith}
use Rattle.std.proofs.lemmas.Bool.{eqb-true}
use Rattle.std.proofs.lemmas.Bool.Decides.{leb_tells}
use Rattle.std.proofs.lemmas.List.{take-append-le, drop-append-le, length-append}
use Rattle.std.proofs.lemmas.List.{get_or_append_left, get_or-drop, get_or-take, take_all, length-drop, length-take-le}
use Rattle.memchr.specs.Find.{Nowhere, NoneAfter, Passes, is_byte, OccursAt}
use Rattle.pawk_records.specs.Records.{newline, records, records_by, paragraphs}
use Rattle.pawk_records.proofs.LineLemmas.{records_parts}
use Rattle.pawk_records.proofs.ParagraphLemmas.{paragraphs_parts}
use Rattle.pawk_records.proofs.BlocksLemmas.{no_records}
use Rattle.pawk_window.specs.Cuts.{MayCut, EndsAt, NoneEnds}

module _ (s more : List ℕ) (p : ℕ) (within : p ≤ length s) where
  longer : p ≤ length (s ++ more)
  longer = omega (arith, within, length-append s more)

  front : take p (s ++ more) ≡ take p s
  front = take-append-le p s more within

  back : drop p (s ++ more) ≡ drop p s ++ more
  back = drop-append-le p s more within

-- where a record ends bytes may be cut
pub ended_cut : (rs s : List ℕ) (p : ℕ) → EndsAt rs s p → MayCut rs s p
ended_cut [] s p h = record {
  within = h.1;
  parts = λ more.
      paragraphs_parts (s ++ more) p (longer s more p h.1)
      (λ _. get_or_append_left s more 0 (p - 1) (omega (arith, h.0, h.1)) ∙ h.3, λ _. get_or_append_left s more 0 (p - 2) (omega (arith, h.0, h.1)) ∙ h.2)
      ∙ ap (λ x. paragraphs x ++ paragraphs (drop p (s ++ more))) (front s more p h.1)
      ∙ ap (λ x. paragraphs (take p s) ++ paragraphs x) (back s more p h.1);
}
ended_cut (e ∷ rs) s p h = record {
  within = h.1;
  parts = λ more.
      records_parts e (s ++ more) p (inr (h.0, longer s more p h.1, get_or_append_left s more 0 (p - 1) (omega (arith, h.0, h.1)) ∙ h.2))
      ∙ ap (λ x. records e x ++ records e (drop p (s ++ more))) (front s more p h.1)
      ∙ ap (λ x. records e (take p s) ++ records e x) (back s more p h.1);
}

-- nor is anything cut off before the first
pub no_cut : (rs s : List ℕ) → MayCut rs s 0
no_cut rs s = record { within = omega arith; parts = λ more. ap (λ l. l ++ records_by rs (s ++ more)) (sym (no_records rs)) }

-- where a record ends among the rest, it ends among all bytes
pub ends_behind : (rs s : List ℕ) (w p : ℕ) → w ≤ length s → EndsAt rs (drop w s) p → EndsAt rs s (w + p)
ends_behind [] s w p le h =
    let long = length-drop w s in (
      omega (arith, h.0),
      omega (arith, h.1, long, le),
      ap (λ k. get_or s k 0) (let e : w + p - 2 ≡ w + (p - 2) = omega (arith, h.0) in e) ∙ sym (get_or-drop w s (p - 2) 0) ∙ h.2,
      ap (λ k. get_or s k 0) (let e : w + p - 1 ≡ w + (p - 1) = omega (arith, h.0) in e) ∙ sym (get_or-drop w s (p - 1) 0) ∙ h.3,
    )
ends_behind (e ∷ rs) s w p le h =
    let long = length-drop w s in (
      omega (arith, h.0),
      omega (arith, h.1, long, le),
      ap (λ k. get_or s k 0) (let e : w + p - 1 ≡ w + (p - 1) = omega (arith, h.0) in e) ∙ sym (get_or-drop w s (p - 1) 0) ∙ h.2,
    )

-- and where it ends among all, but within the first, it ends among these
pub ends_before : (rs s : List ℕ) (n p : ℕ) → n ≤ length s → p ≤ n → EndsAt rs s p → EndsAt rs (take n s) p
ends_before [] s n p le inside h =
    let long = length-take-le n s le in (
      h.0,
      omega (arith, long, inside),
      get_or-take n s (p - 2) 0 (omega (arith, inside, h.0)) ∙ h.2,
      get_or-take n s (p - 1) 0 (omega (arith, inside, h.0)) ∙ h.3,
    )
ends_before (e ∷ rs) s n p le inside h =
    let long = length-take-le n s le in
    (h.0, omega (arith, long, inside), get_or-take n s (p - 1) 0 (omega (arith, inside, h.0)) ∙ h.2)

-- after the last record that ended none has
pub open_after : (rs s : List ℕ) (w : ℕ) → w ≤ length s → ((p : ℕ) → w < p → ¬ EndsAt rs s p) → NoneEnds rs (drop w s)
open_after rs s w le none p h = none (w + p) (omega (arith, some rs h)) (ends_behind rs s w p le h)
  where
    some : (rs : List ℕ) → EndsAt rs (drop w s) p → 0 < p
    some [] h = omega (arith, h.0)
    some (e ∷ rs) h = h.0

-- the rest of a text to its end
pub rest_all : (n : ℕ) (s : List ℕ) → take (length s - n) (drop n s) ≡ drop n s
rest_all n s = take_all (length s - n) (drop n s) (omega (arith, length-drop n s))

-- ---- the last separator from place n on

module _ (e : ℕ) (s : List ℕ) (n : ℕ) (le : n ≤ length s) where
  passes : (p : ℕ) → n < p → EndsAt (e ∷ []) s p → Passes (is_byte e) (drop n s) (p - 1 - n)
  passes p after h =
      eq-eqb (get_or (drop n s) (p - 1 - n) 0) e
      (get_or-drop n s (p - 1 - n) 0 ∙ ap (λ k. get_or s k 0) (let e : n + (p - 1 - n) ≡ p - 1 = omega (arith, after) in e) ∙ h.2)

  within : (p : ℕ) → n < p → EndsAt (e ∷ []) s p → p - 1 - n < length (drop n s)
  within p after h = omega (arith, after, h.1, length-drop n s)

  -- a record ends there
  pub line_ends : (k : ℕ) → k < length (drop n s) → Passes (is_byte e) (drop n s) k → EndsAt (e ∷ []) s (n + k + 1)
  line_ends k high at = (
    omega arith,
    omega (arith, high, length-drop n s),
    ap (λ j. get_or s j 0) (let e : n + k + 1 - 1 ≡ n + k = omega arith in e) ∙ sym (get_or-drop n s k 0) ∙ eqb-true (get_or (drop n s) k 0) e at,
  )

  -- and none after it
  pub line_open : (k : ℕ) → NoneAfter (Passes (is_byte e) (drop n s)) 0 (length (drop n s)) k → NoneEnds (e ∷ []) (drop (n + k + 1) s)
  line_open k last =
      open_after (e ∷ []) s (n + k + 1) (omega (arith, last.high, length-drop n s))
      (λ p after h. last.after (p - 1 - n) (omega (arith, after)) (within p (omega (arith, after)) h) (passes p (omega (arith, after)) h))

  -- where there is none, no record ends but among the first n bytes
  pub line_none : NoneEnds (e ∷ []) (take n s) → Nowhere (Passes (is_byte e) (drop n s)) 0 (length (drop n s)) → NoneEnds (e ∷ []) s
  line_none first none p h = elim (leb_tells p n) [
    | inl y ↦ first p (ends_before (e ∷ []) s n p le y.1 h)
    | inr f ↦ none (p - 1 - n) (omega arith) (within p f.1 h) (passes p f.1 h)
  ]

-- ---- the last two newlines from place m on, which is n or the place before it

module _ (s : List ℕ) (n m : ℕ) (le : n ≤ length s) (low : m ≤ n - 1) (near : n ≤ m + 1) where
  occurs : (p : ℕ) → m + 1 < p → EndsAt [] s p → OccursAt (drop m s) (newline ∷ newline ∷ []) (p - 2 - m)
  occurs p after h = record {
    fits = omega (arith, after, h.1, length-drop m s);
    reads = reads;
  }
    where
      reads : (j : ℕ) → j < 2 → get_or (drop m s) (p - 2 - m + j) 0 ≡ get_or (newline ∷ newline ∷ []) j 0
      reads zero lt =
          get_or-drop m s (p - 2 - m + 0) 0 ∙ ap (λ k. get_or s k 0) (let e : m + (p - 2 - m + 0) ≡ p - 2 = omega (arith, after) in e) ∙ h.2
      reads (suc zero) lt =
          get_or-drop m s (p - 2 - m + 1) 0 ∙ ap (λ k. get_or s k 0) (let e : m + (p - 2 - m + 1) ≡ p - 1 = omega (arith, after) in e) ∙ h.3
      reads (suc (suc j)) lt = absurd (omega (arith, lt))

  within2 : (p : ℕ) → m + 1 < p → EndsAt [] s p → p - 2 - m < length (drop m s) + 1
  within2 p after h = omega (arith, after, h.1, length-drop m s)

  -- a paragraph ends there
  pub gap_ends : (k : ℕ) → OccursAt (drop m s) (newline ∷ newline ∷ []) k → EndsAt [] s (m + k + 2)
  gap_ends k at =
      let fits : k + 2 ≤ length (drop m s) = at.fits in (
        omega arith,
        omega (arith, fits, length-drop m s),
        ap (λ j. get_or s j 0) (let e : m + k + 2 - 2 ≡ m + (k + 0) = omega arith in e) ∙ sym (get_or-drop m s (k + 0) 0) ∙ at.reads 0 (omega arith),
        ap (λ j. get_or s j 0) (let e : m + k + 2 - 1 ≡ m + (k + 1) = omega arith in e) ∙ sym (get_or-drop m s (k + 1) 0) ∙ at.reads 1 (omega arith),
      )

  -- and none after it
  pub gap_open : (k : ℕ) → OccursAt (drop m s) (newline ∷ newline ∷ []) k → NoneAfter (OccursAt (drop m s) (newline ∷ newline ∷ [])) 0 (length (drop m s) + 1) k → NoneEnds [] (drop (m + k + 2) s)
  gap_open k at last =
      let fits : k + 2 ≤ length (drop m s) = at.fits in
      open_after [] s (m + k + 2) (omega (arith, fits, length-drop m s, length-drop m s))
      (λ p after h. last.after (p - 2 - m) (omega (arith, after)) (within2 p (omega (arith, after)) h) (occurs p (omega (arith, after)) h))

  -- where there are none, no paragraph ends but among the first n bytes
  pub gap_none : NoneEnds [] (take n s) → Nowhere (OccursAt (drop m s) (newline ∷ newline ∷ [])) 0 (length (drop m s) + 1) → NoneEnds [] s
  gap_none first none p h = elim (leb_tells p n) [
    | inl y ↦ first p (ends_before [] s n p le y.1 h)
    | inr f ↦ (let past : m + 1 < p = omega (arith, f.1, h.0, low, near) in none (p - 2 - m) (omega arith) (within2 p past h) (occurs p past h))
  ]
