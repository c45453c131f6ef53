use Rattle.std.proofs.Common.{ℕ, suc, ◌+◌, ◌<◌, List, [], ◌∷◌, length, arith, rules, if◌then◌else◌, Bool, true, false}
use Rattle.pawk_store.specs.Builtins.{index, index_from, begins_with}
use Rattle.pawk_runtime.proofs.leaves.place_in.Goals as goal

-- the place is one of the text
chosen_within : (here : Bool) (place later most : ℕ) → place < most → later < most → (if here then place else later) < most
chosen_within true place later most h k = h
chosen_within false place later most h k = k

index_from_within : (place : ℕ) (s t : List ℕ) → 0 < place → index_from place s t < place + length s
index_from_within place [] t h = omega arith
index_from_within place (b ∷ s) t h =
    let r = index_from_within (suc place) s t (omega arith) in
    chosen_within (begins_with t (b ∷ s)) place (index_from (suc place) s t) (place + suc (length s)) (omega arith) (omega arith)

index_within : (s t : List ℕ) → index s t < length s + 1
index_within s [] = omega arith
index_within s (c ∷ t) = let r = index_from_within 1 s (c ∷ t) (omega arith) in omega arith

pub overflow_cast-result : goal.overflow_cast-result
overflow_cast-result c = let w = index_within c.args.text.now c.args.sought.now in omega arith

pub returns : goal.returns
returns c = let w = index_within c.args.text.now c.args.sought.now in search rules
