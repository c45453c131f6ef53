-- How paragraphs are cut off one by one, counted, and parted.
use Rattle.std.proofs.Common.{◌≡◌, ◌≢◌, inl, inr, ℕ, zero, suc, ◌+◌, ◌-◌, ◌<◌, ◌≤◌, Bool, true, false, not, ◌&&◌, cond, eqb, eq-eqb, List, [], ◌∷◌, ◌++◌, length, take, drop, get_or, refl, ap, arith, sym, ◌∙◌, one-add}
use Rattle.std.proofs.lemmas.Bool.{eqb-true, false≢true}
use Rattle.std.proofs.lemmas.List.{drop_all, drop-drop, get_or-drop, length-drop}
use Rattle.std.proofs.lemmas.Bool.Decides.{eqb_tells}
use Rattle.std.specs.List.{prefix_len, onto_first}
use Rattle.memchr.specs.Find.{is_byte, Passes, Nowhere, NoneBefore}
use Rattle.pawk_records.specs.Records.{newline, ends_line, paragraphs, paragraphs_from}
use Rattle.pawk_records.specs.Paragraph.{paragraph_length}

-- ---- the first paragraph

-- newlines in front change no paragraph
pub paragraphs_past_newlines : (s : List ℕ) → paragraphs (drop (prefix_len (is_byte newline) s) s) ≡ paragraphs s
paragraphs_past_newlines [] = refl
paragraphs_past_newlines (b ∷ s) = elim (eqb_tells b newline) [
  | inl y ↦ rw (y.0, one-add) (paragraphs_past_newlines s)
  | inr n ↦ rw n.0 (rw n.0 refl)
]

-- once they are passed, no newline is at the front
pub no_newlines_left : (s : List ℕ) → prefix_len (is_byte newline) (drop (prefix_len (is_byte newline) s) s) ≡ 0
no_newlines_left [] = refl
no_newlines_left (b ∷ s) = elim (eqb_tells b newline) [
  | inl y ↦ rw (y.0, one-add) (no_newlines_left s)
  | inr n ↦ rw n.0 (rw n.0 refl)
]

-- inside a paragraph its rest comes first
rest_of_paragraph : (s : List ℕ) → paragraphs_from true s ≡ take (paragraph_length s) s ∷ paragraphs (drop (paragraph_length s) s)
rest_of_paragraph [] = refl
rest_of_paragraph (b ∷ s) = elim (eqb_tells b newline) [
  | inl y ↦ rw y.0 (elim (ends_line s) as (λ v. cond v ([] ∷ paragraphs s) (onto_first b (paragraphs_from true s)) ≡ take (cond v 0 (1 + paragraph_length s)) (b ∷ s) ∷ paragraphs (drop (cond v 0 (1 + paragraph_length s)) (b ∷ s))) [
    | true ↦ rw y.0 refl
    | false ↦ rw one-add (ap (onto_first b) (rest_of_paragraph s))
  ])
  | inr n ↦ rw n.0 (rw one-add (ap (onto_first b) (rest_of_paragraph s)))
]

pub first_paragraph : (s : List ℕ) → prefix_len (is_byte newline) s ≡ 0 → 0 < length s → paragraphs s ≡ take (paragraph_length s) s ∷ paragraphs (drop (paragraph_length s) s)
first_paragraph [] none some = absurd (omega arith)
first_paragraph (b ∷ s) none some = elim (eqb_tells b newline) [
  | inl y ↦ absurd (let n : 1 + prefix_len (is_byte newline) s ≡ 0 = rw y.0 at none in omega arith)
  | inr n ↦ rw n.0 (rw one-add (ap (onto_first b) (rest_of_paragraph s)))
]

-- it has at least a byte
pub some_length : (s : List ℕ) → prefix_len (is_byte newline) s ≡ 0 → 0 < length s → 0 < paragraph_length s
some_length [] none some = absurd (omega arith)
some_length (b ∷ s) none some = elim (eqb_tells b newline) [
  | inl y ↦ absurd (let n : 1 + prefix_len (is_byte newline) s ≡ 0 = rw y.0 at none in omega arith)
  | inr n ↦ rw n.0 (omega arith)
]

-- up to the first newline of a text nothing ends
pub length_to_newline : (s : List ℕ) (i : ℕ) → i ≤ length s → ((k : ℕ) → k < i → get_or s k 0 ≢ newline) → paragraph_length s ≡ i + paragraph_length (drop i s)
length_to_newline s zero le none = omega arith
length_to_newline [] (suc i) le none = absurd (omega arith)
length_to_newline (b ∷ s) (suc i) le none = elim (eqb_tells b newline) [
  | inl y ↦ absurd (none 0 (omega arith) y.1)
  | inr n ↦ (let later = length_to_newline s i (omega arith) (λ k lt. none (suc k) (omega arith)) in rw n.0 (omega arith))
]

-- at a newline all ends, or it goes on after it
pub length_at_newline : (s : List ℕ) (i : ℕ) → i < length s → get_or s i 0 ≡ newline → paragraph_length (drop i s) ≡ cond (ends_line (drop (i + 1) s)) 0 (1 + paragraph_length (drop (i + 1) s))
length_at_newline [] i lt is = absurd (omega arith)
length_at_newline (b ∷ s) zero lt is = rw (eq-eqb b newline is) refl
length_at_newline (b ∷ s) (suc i) lt is =
    let next : suc i + 1 ≡ suc (i + 1) = omega arith in
    rw next (length_at_newline s i (omega arith) is)

ends_at : (s : List ℕ) → get_or s 0 0 ≡ newline → ends_line s ≡ true
ends_at [] is = refl
ends_at (b ∷ s) is = eq-eqb b newline is

goes_at : (s : List ℕ) → 0 < length s → get_or s 0 0 ≢ newline → ends_line s ≡ false
goes_at [] some n = absurd (omega arith)
goes_at (b ∷ s) some n = elim (eqb_tells b newline) [ inl y ↦ absurd (n y.1) | inr f ↦ f.0 ]

-- where no newline is, all of a text is before the end
pub length_without : (t : List ℕ) → Nowhere (Passes (is_byte newline) t) 0 (length t) → paragraph_length t ≡ length t
length_without t none =
    let l = length_to_newline t (length t) (omega arith) (λ k lt is. none k (omega arith) lt (eq-eqb _ newline is)) in
    let rest : paragraph_length (drop (length t) t) ≡ 0 = ap paragraph_length (drop_all (length t) t (omega arith)) in
    omega arith

-- up to the first newline, and after it
pub length_with : (t : List ℕ) (i : ℕ) → NoneBefore (Passes (is_byte newline) t) 0 (length t) i → Passes (is_byte newline) t i
    → paragraph_length t ≡ i + cond (ends_line (drop (i + 1) t)) 0 (1 + paragraph_length (drop (i + 1) t))
length_with t i first is =
    length_to_newline t i (omega (arith, first.high)) (λ k lt at. first.before k (omega arith) lt (eq-eqb _ newline at))
    ∙ ap (λ n. i + n) (length_at_newline t i first.high (eqb-true _ newline is))

module _ (s : List ℕ) (from i : ℕ) where
  behind : drop (i + 1) (drop from s) ≡ drop (from + i + 1) s
  behind = drop-drop (i + 1) from s ∙ ap (λ k. drop k s) (let e : from + (i + 1) ≡ from + i + 1 = omega arith in e)

  read_after : get_or (drop (from + i + 1) s) 0 0 ≡ get_or s (from + i + 1) 0
  read_after = get_or-drop (from + i + 1) s 0 0 ∙ ap (λ k. get_or s k 0) (let e : from + i + 1 + 0 ≡ from + i + 1 = omega arith in e)

  pub ends_at_end : from + i + 1 ≡ length s → ends_line (drop (i + 1) (drop from s)) ≡ true
  ends_at_end e = ap ends_line (behind ∙ drop_all (from + i + 1) s (omega arith))

  pub ends_before_newline : get_or s (from + i + 1) 0 ≡ newline → ends_line (drop (i + 1) (drop from s)) ≡ true
  ends_before_newline is = ap ends_line behind ∙ ends_at (drop (from + i + 1) s) (read_after ∙ is)

  pub goes_after : from + i + 1 < length s → get_or s (from + i + 1) 0 ≢ newline → ends_line (drop (i + 1) (drop from s)) ≡ false
  goes_after lt n = ap ends_line behind ∙ goes_at (drop (from + i + 1) s) (omega (arith, length-drop (from + i + 1) s)) (λ is. n (sym read_after ∙ is))

  pub length_after : paragraph_length (drop (i + 1) (drop from s)) ≡ paragraph_length (drop (from + i + 1) s)
  length_after = ap paragraph_length behind

-- ---- how many there are

pub some_inside : (s : List ℕ) → 0 < length (paragraphs_from true s)
some_inside s = omega (arith, ap length (rest_of_paragraph s))

length-onto_first : (b : ℕ) (ps : List (List ℕ)) → 0 < length ps → length (onto_first b ps) ≡ length ps
length-onto_first b [] some = absurd (omega arith)
length-onto_first b (p ∷ ps) some = refl

pub length-onto_inside : (b : ℕ) (s : List ℕ) → length (onto_first b (paragraphs_from true s)) ≡ length (paragraphs_from true s)
length-onto_inside b s = length-onto_first b (paragraphs_from true s) (some_inside s)

-- no more paragraphs than bytes
pub length-paragraphs_from : (inside : Bool) (s : List ℕ) → length (paragraphs_from inside s) ≤ length s + cond inside 1 0
length-paragraphs_from true [] = omega arith
length-paragraphs_from false [] = omega arith
length-paragraphs_from true (b ∷ s) =
    let out = length-paragraphs_from false s in
    let in_it = length-paragraphs_from true s in
    let same = length-onto_inside b s in
    elim (eqb b newline && ends_line s) as (λ v. length (cond v ([] ∷ paragraphs s) (onto_first b (paragraphs_from true s))) ≤ length (b ∷ s) + 1) [
      | true ↦ omega arith
      | false ↦ omega arith
    ]
length-paragraphs_from false (b ∷ s) =
    let out = length-paragraphs_from false s in
    let in_it = length-paragraphs_from true s in
    let same = length-onto_inside b s in
    elim (eqb b newline) as (λ v. length (cond v (paragraphs s) (onto_first b (paragraphs_from true s))) ≤ length (b ∷ s) + 0) [
      | true ↦ omega arith
      | false ↦ omega arith
    ]

-- The places at which paragraphs begin in bytes that begin at place `at`; `one` says whether a
-- newline or nothing is before them, `two` whether two newlines are, or none but newlines.
abbrev pub begins_along : ℕ → Bool → Bool → List ℕ → List ℕ
begins_along at one two [] = []
begins_along at one two (b ∷ s) =
    cond (two && not (eqb b newline))
    (at ∷ begins_along (at + 1) (eqb b newline) (eqb b newline && one) s)
    (begins_along (at + 1) (eqb b newline) (eqb b newline && one) s)

-- as many begin as there are, but for one that began before
mutual
  pub count_outside : (s : List ℕ) (at : ℕ) → length (paragraphs s) ≡ length (begins_along at true true s)
  count_outside [] at = refl
  count_outside (b ∷ s) at = elim (eqb_tells b newline) [
    | inl y ↦ rw y.0 (count_outside s (at + 1))
    | inr n ↦ rw n.0 (let later = count_inside s (at + 1) in omega (arith, length-onto_inside b s))
  ]

  count_after : (s : List ℕ) (at : ℕ) → length (paragraphs_from (not (ends_line s)) s) ≡ length (begins_along at true false s) + cond (ends_line s) 0 1
  count_after [] at = refl
  count_after (b ∷ s) at = elim (eqb_tells b newline) [
    | inl y ↦ rw y.0 (rw y.0 (let later = count_outside s (at + 1) in omega arith))
    | inr n ↦ rw n.0 (rw n.0 (let later = count_inside s (at + 1) in omega (arith, length-onto_inside b s)))
  ]

  count_inside : (s : List ℕ) (at : ℕ) → length (paragraphs_from true s) ≡ length (begins_along at false false s) + 1
  count_inside [] at = refl
  count_inside (b ∷ s) at = elim (eqb_tells b newline) [
    | inl y ↦ rw y.0 (let same = length-onto_inside b s in elim (ends_line s) as (λ v. length (paragraphs_from (not v) s) ≡ length (begins_along (at + 1) true false s) + cond v 0 1 → length (cond v ([] ∷ paragraphs s) (onto_first b (paragraphs_from true s))) ≡ length (begins_along (at + 1) true false s) + 1) [
      | true ↦ (λ later. omega arith)
      | false ↦ (λ later. omega arith)
    ] (count_after s (at + 1)))
    | inr n ↦ rw n.0 (let later = count_inside s (at + 1) in omega (arith, length-onto_inside b s))
  ]

-- ---- parted at a place

-- two newlines are before place p, or nothing but newlines
abbrev pub IsGap : List ℕ → ℕ → Type 0
IsGap s p = (0 < p → get_or s (p - 1) 0 ≡ newline) × (1 < p → get_or s (p - 2) 0 ≡ newline)

onto_first-append : (b : ℕ) (ps qs : List (List ℕ)) → 0 < length ps → onto_first b (ps ++ qs) ≡ onto_first b ps ++ qs
onto_first-append b [] qs h = absurd (omega arith)
onto_first-append b (p ∷ ps) qs h = refl

ends_line-take : (s : List ℕ) (p : ℕ) → 0 < p → ends_line (take p s) ≡ ends_line s
ends_line-take s zero some = absurd (omega arith)
ends_line-take [] (suc p) some = refl
ends_line-take (b ∷ s) (suc p) some = refl

gap_inside : (b : ℕ) (s : List ℕ) (p : ℕ) → get_or (b ∷ s) (suc p) 0 ≡ newline → get_or (b ∷ s) p 0 ≡ newline → IsGap s (suc p)
gap_inside b s zero near far = (λ h. near, λ h. absurd (omega arith))
gap_inside b s (suc p) near far =
    (λ h. ap (λ k. get_or s k 0) (let e : suc (suc p) - 1 ≡ suc p = omega arith in e) ∙ near, λ h. ap (λ k. get_or s k 0) (let e : suc (suc p) - 2 ≡ p = omega arith in e) ∙ far)

two_more : (b : ℕ) (s : List ℕ) (p : ℕ) → b ≢ newline → get_or (b ∷ s) p 0 ≡ newline → 1 < suc p
two_more b s zero n is = absurd (n is)
two_more b s (suc p) n is = omega arith

more_than_one : (s : List ℕ) (p : ℕ) → get_or s p 0 ≡ newline → ends_line s ≡ false → 1 < suc p
more_than_one s zero is fails = absurd (false≢true (sym fails ∙ ends_at s is))
more_than_one s (suc p) is fails = omega arith

mutual
  part_outside : (s : List ℕ) (p : ℕ) → p ≤ length s → IsGap s p → paragraphs s ≡ paragraphs (take p s) ++ paragraphs (drop p s)
  part_outside s zero le gap = refl
  part_outside [] (suc p) le gap = absurd (omega arith)
  part_outside (b ∷ s) (suc zero) le gap = rw (eq-eqb b newline (gap.0 (omega arith))) refl
  part_outside (b ∷ s) (suc (suc p)) le gap =
      let near : get_or (b ∷ s) (suc p) 0 ≡ newline = ap (λ k. get_or (b ∷ s) k 0) (let e : suc p ≡ suc (suc p) - 1 = omega arith in e) ∙ gap.0 (omega arith) in
      let far : get_or (b ∷ s) p 0 ≡ newline = ap (λ k. get_or (b ∷ s) k 0) (let e : p ≡ suc (suc p) - 2 = omega arith in e) ∙ gap.1 (omega arith) in
      elim (eqb_tells b newline) [
        | inl y ↦ rw y.0 (part_outside s (suc p) (omega arith) (gap_inside b s p near far))
        | inr n ↦ rw n.0 (ap (onto_first b) (part_inside s (suc p) (two_more b s p n.1 far) (omega arith) (gap_inside b s p near far)) ∙ onto_first-append b _ _ (some_inside (take (suc p) s)))
      ]

  part_inside : (s : List ℕ) (p : ℕ) → 1 < p → p ≤ length s → IsGap s p → paragraphs_from true s ≡ paragraphs_from true (take p s) ++ paragraphs (drop p s)
  part_inside s zero two le gap = absurd (omega arith)
  part_inside [] (suc p) two le gap = absurd (omega arith)
  part_inside (b ∷ s) (suc zero) two le gap = absurd (omega arith)
  part_inside (b ∷ s) (suc (suc p)) two le gap =
      let near : get_or (b ∷ s) (suc p) 0 ≡ newline = ap (λ k. get_or (b ∷ s) k 0) (let e : suc p ≡ suc (suc p) - 1 = omega arith in e) ∙ gap.0 (omega arith) in
      let far : get_or (b ∷ s) p 0 ≡ newline = ap (λ k. get_or (b ∷ s) k 0) (let e : p ≡ suc (suc p) - 2 = omega arith in e) ∙ gap.1 (omega arith) in
      let tail = gap_inside b s p near far in
      let same : ends_line (take (suc p) s) ≡ ends_line s = ends_line-take s (suc p) (omega arith) in
      let out = part_outside s (suc p) (omega arith) tail in
      rw same (elim (eqb_tells b newline) [
        | inl y ↦ rw y.0 (elim (ends_line s) as (λ v. (ends_line s ≡ v) → cond v ([] ∷ paragraphs s) (onto_first b (paragraphs_from true s)) ≡ cond v ([] ∷ paragraphs (take (suc p) s)) (onto_first b (paragraphs_from true (take (suc p) s))) ++ paragraphs (drop (suc p) s)) [
          | true ↦ (λ e. ap (λ l. [] ∷ l) out)
          | false ↦ (λ e. ap (onto_first b) (part_inside s (suc p) (more_than_one s p near e) (omega arith) tail) ∙ onto_first-append b _ _ (some_inside (take (suc p) s)))
        ] refl)
        | inr n ↦ rw n.0 (ap (onto_first b) (part_inside s (suc p) (two_more b s p n.1 far) (omega arith) tail) ∙ onto_first-append b _ _ (some_inside (take (suc p) s)))
      ])

pub paragraphs_parts : (s : List ℕ) (p : ℕ) → p ≤ length s → IsGap s p → paragraphs s ≡ paragraphs (take p s) ++ paragraphs (drop p s)
paragraphs_parts s p le gap = part_outside s p le gap

-- bytes of which the first is no newline hold a paragraph
pub some_paragraphs : (s : List ℕ) → 0 < length s → get_or s 0 0 ≢ newline → 0 < length (paragraphs s)
some_paragraphs [] some n = absurd (omega arith)
some_paragraphs (b ∷ s) some n = elim (eqb_tells b newline) [
  | inl y ↦ absurd (n y.1)
  | inr f ↦ rw f.0 (omega (arith, length-onto_inside b s, some_inside s))
]
