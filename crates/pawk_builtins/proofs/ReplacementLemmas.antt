-- A replacement in which no byte is special stands for itself.
use Rattle.std.proofs.Common.{◌≡◌, ℕ, suc, ◌<◌, true, ◌&&◌, ◌||◌, cond, eqb, List, [], ◌∷◌, ◌++◌, length, get_or, refl, ap, ◌∙◌, arith}
use Rattle.std.proofs.lemmas.Bool.{cond-false, or_parts, and_left, false_from_ne_true}
use Rattle.memchr.specs.Find.{is_byte2}
use Rattle.pawk_store.specs.Builtins.{replacement}

abbrev Plain : List ℕ → Type 0
Plain r = (k : ℕ) → k < length r → is_byte2 38 92 (get_or r k 0) ≡ true → ⊥

pub plain_is : (found r : List ℕ) → Plain r → replacement found r ≡ r
plain_is found [] plain = refl
plain_is found (b ∷ []) plain =
    let no = or_parts (eqb b 38) (eqb b 92) (false_from_ne_true _ (plain 0 (omega arith))) in
    cond-false (eqb b 38) found (b ∷ []) no.0
plain_is found (b ∷ c ∷ r) plain =
    let no = or_parts (eqb b 38) (eqb b 92) (false_from_ne_true _ (plain 0 (omega arith))) in
    let special = eqb c 38 || eqb c 92 in
    let kept = b ∷ replacement found (c ∷ r) in
    let test = and_left (eqb b 92) special no.1 in
    cond-false (eqb b 38) (found ++ replacement found (c ∷ r)) (cond (eqb b 92 && special) (c ∷ replacement found r) kept) no.0
    ∙ (cond-false (eqb b 92 && special) (c ∷ replacement found r) kept test
    ∙ ap (λ t. b ∷ t) (plain_is found (c ∷ r) (λ k below. plain (suc k) (omega arith))))
