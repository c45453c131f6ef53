-- The steps of passing over bytes.
use Rattle.std.proofs.Common.{◌≡◌, ◌≢◌, ◌≤◌, ℕ, zero, suc, ◌-◌, false, [], ◌∷◌, length, drop, refl, sym, ◌∙◌, arith, inl, inr}
use Rattle.std.specs.Prelude.{◌==◌}
use Rattle.std.proofs.lemmas.Bool.{cases_Bool}
use Rattle.std.proofs.lemmas.Bool.Decides.{nat_tests}
use Rattle.pawk_lex.specs.Bytes.{Text}
use Rattle.pawk_lex.specs.Gaps.{pass}

pub pass_left : (lead : Text → ℕ) (n : ℕ) (z : Text) → pass lead n z ≡ pass lead 0 (drop n z)
pass_left lead zero [] = refl
pass_left lead (suc n) [] = refl
pass_left lead zero (b ∷ z) = refl
pass_left lead (suc n) (b ∷ z) = pass_left lead n z

some_lead : (n : ℕ) → n ≢ 0 → (n == 0) ≡ false
some_lead n h = grind (arith, nat_tests)

pub pass_stops : (lead : Text → ℕ) (z : Text) → lead z ≡ 0 → pass lead 0 z ≡ z
pass_stops lead [] e = refl
pass_stops lead (b ∷ z) e = rw e refl

passes : (lead : Text → ℕ) (n b : ℕ) (z : Text) → n ≢ 0 → pass lead (n - 1) z ≡ pass lead 0 (drop n (b ∷ z))
passes lead zero b z h = absurd (h refl)
passes lead (suc n) b z h = let e : suc n - 1 ≡ n = omega arith in rw e (pass_left lead n z)

pub pass_goes : (lead : Text → ℕ) (z : Text) → lead z ≢ 0 → pass lead 0 z ≡ pass lead 0 (drop (lead z) z)
pass_goes lead [] h = pass_left lead (lead []) []
pass_goes lead (b ∷ z) h = rw (some_lead (lead (b ∷ z)) h) (passes lead (lead (b ∷ z)) b z h)

pub pass_shorter : (lead : Text → ℕ) (n : ℕ) (z : Text) → length (pass lead n z) ≤ length z
pass_shorter lead n [] = omega arith
pass_shorter lead (suc n) (b ∷ z) = omega (arith, pass_shorter lead n z)
pass_shorter lead zero (b ∷ z) = elim (cases_Bool (lead (b ∷ z) == 0)) [
  | inl e ↦ rw e (omega arith)
  | inr e ↦ rw e (omega (arith, pass_shorter lead (lead (b ∷ z) - 1) z))
]

-- the end of a loop that passes over bytes, and one turn of it
pub pass_done : (lead : Text → ℕ) (z whole : Text) (n : ℕ) → n ≡ lead z → n ≡ 0 → pass lead 0 z ≡ pass lead 0 whole → z ≡ pass lead 0 whole
pass_done lead z whole n is none e = sym (pass_stops lead z (sym is ∙ none)) ∙ e

pub pass_turn : (lead : Text → ℕ) (z whole : Text) (n : ℕ) → n ≡ lead z → n ≢ 0 → pass lead 0 z ≡ pass lead 0 whole → pass lead 0 (drop n z) ≡ pass lead 0 whole
pass_turn lead z whole n is some e =
    let goes : lead z ≢ 0 = λ f. some (is ∙ f) in
    rw is (sym (pass_goes lead z goes) ∙ e)
