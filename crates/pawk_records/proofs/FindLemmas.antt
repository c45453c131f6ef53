-- The first place at which a record begins, by the first separator before it.
use Rattle.std.proofs.Common.{◌≡◌, inl, inr, ℕ, ◌+◌, ◌-◌, ◌<◌, ◌≤◌, false, eq-eqb, List, [], ◌∷◌, length, drop, get_or, ap, arith, sym, ◌∙◌}
use Rattle.std.proofs.lemmas.Bool.{eqb-true, false≢true}
use Rattle.std.proofs.lemmas.Bool.Decides.{leb_tells}
use Rattle.std.proofs.lemmas.List.{get_or-drop}
use Rattle.memchr.specs.Find.{is_byte, Passes, Nowhere}
use Rattle.pawk_records.specs.Records.{newline}
use Rattle.pawk_records.specs.Begins.{begins_at, BeginsAt}
use Rattle.pawk_records.proofs.BeginsLemmas.{begins_line, begins_gap, is_after-is}

-- a byte of the text, found in a rest of it
passes_in_rest : (b : ℕ) (s : List ℕ) (p k : ℕ) → p ≤ k → get_or s k 0 ≡ b → Passes (is_byte b) (drop p s) (k - p)
passes_in_rest b s p k le is = eq-eqb _ b (get_or-drop p s (k - p) 0 ∙ ap (λ i. get_or s i 0) (let e : p + (k - p) ≡ k = omega arith in e) ∙ is)

module _ (e : ℕ) (rs s : List ℕ) (from : ℕ) (some : 0 < from) where
  -- no line begins where no separator is before one
  pub no_line : (n : ℕ) → n ≤ length s → Nowhere (Passes (is_byte e) (drop (from - 1) s)) 0 (n - (from - 1) - 1) → Nowhere (BeginsAt (e ∷ rs) s) from n
  no_line n le none k low high at =
      none (k - 1 - (from - 1)) (omega arith) (omega arith)
      (passes_in_rest e s (from - 1) (k - 1) (omega arith) (begins_line e rs s k at (omega arith)))

  pub line_at : (i : ℕ) → Passes (is_byte e) (drop (from - 1) s) i → BeginsAt (e ∷ rs) s (from + i)
  line_at i is =
      is_after-is e s (from + i) (λ later. ap (λ k. get_or s k 0) (let n : from + i - 1 ≡ from - 1 + i = omega arith in n) ∙ sym (get_or-drop (from - 1) s i 0) ∙ eqb-true _ e is)

-- a paragraph begins only after a newline
pub no_paragraph : (s : List ℕ) (place n : ℕ) → n ≤ length s → begins_at [] s place ≡ false → Nowhere (Passes (is_byte newline) (drop place s)) 0 (n - place - 1) → Nowhere (BeginsAt [] s) place n
no_paragraph s place n le fails none k low high at = elim (leb_tells (place + 1) k) [
  | inl later ↦ none (k - 1 - place) (omega (arith, later.1)) (omega (arith, later.1))
      (passes_in_rest newline s place (k - 1) (omega (arith, later.1)) ((begins_gap s k at).0.0 (omega (arith, later.1))))
  | inr here ↦ (let same : k ≡ place = omega (arith, here.1) in false≢true (sym fails ∙ ap (begins_at [] s) (sym same) ∙ at))
]

-- no place up to one, and none from it on
pub nowhere_joined : (P : ℕ → Type 0) (i j n : ℕ) → Nowhere P i j → Nowhere P j n → Nowhere P i n
nowhere_joined P i j n before after k low high at = elim (leb_tells j k) [
  | inl later ↦ after k later.1 high at
  | inr early ↦ before k low early.1 at
]
