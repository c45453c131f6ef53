-- Refusals of chunks, and lists of chunks that grow.
use Rattle.std.proofs.Common.{◌≡◌, ℕ, ◌+◌, ◌≤◌, List, [], ◌∷◌, ◌++◌, length, ap, arith, sym, ◌∙◌, append_assoc, length-append}
use Rattle.pawk_input.specs.declared.cutting.CutRefusal.{CutRefusal}
use Rattle.pawk_input.specs.declared.cutting.CutRefusal.TheVariants.{NoRecord, NotRising, TooMany, Memory}
use Rattle.pawk_input.specs.Plan.{RefusesMany}

-- a longer list is refused for the same reasons
pub RefusesMany-longer : (n m most : ℕ) (r : CutRefusal) → n ≤ m → RefusesMany n most r → RefusesMany m most r
RefusesMany-longer n m most NoRecord le h = h
RefusesMany-longer n m most NotRising le h = h
RefusesMany-longer n m most TooMany le h = omega arith
RefusesMany-longer n m most Memory le h = omega arith

-- one more chunk was moved from what is to come to what is there
pub moved : {A : Type 0} (old new all : List A) (x : A) (rest more : List A) → old ++ rest ≡ all → rest ≡ x ∷ more → new ≡ old ++ x ∷ [] → new ++ more ≡ all
moved old new all x rest more is first added =
    ap (λ l. l ++ more) added ∙ append_assoc old (x ∷ []) more ∙ ap (λ l. old ++ l) (sym first) ∙ is

-- there is at least one more than the old ones
pub one_more_fits : {A : Type 0} (old all : List A) (x : A) (rest more : List A) → old ++ rest ≡ all → rest ≡ x ∷ more → length old + 1 ≤ length all
one_more_fits old all x rest more is first =
    omega (arith, sym (length-append old rest) ∙ ap length is, ap length first)
