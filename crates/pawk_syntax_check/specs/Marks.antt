-- Marks on numbers: which names are found to be arrays.
use Rattle.std.specs.Prelude.{◌≡◌, ◌<◌, ℕ, Bool, true, false, not, ◌||◌, if◌then◌else◌, List, [], ◌∷◌, slice_set}
use Rattle.std.proofs.Common.{get_or}
use Rattle.std.specs.List.{sum_by}
use Rattle.pawk_syntax_check.specs.declared.demand.Demand.{Demand}
use Rattle.pawk_syntax_check.specs.declared.demand.Demand.TheVariants.{Array, Scalar, Alike}

abbrev pub is_marked : List Bool → ℕ → Bool
is_marked m i = get_or m i false

abbrev pub mark : List Bool → ℕ → List Bool
mark m i = if is_marked m i then m else slice_set m i true

-- a demand marks what it shows to be an array
abbrev pub step : Demand → List Bool → List Bool
step (Array v) m = mark m v.number
step (Scalar v) m = m
step (Alike v w) m = if is_marked m v.number then mark m w.number else (if is_marked m w.number then mark m v.number else m)

-- the demand marks nothing more
abbrev pub is_settled : List Bool → Demand → Bool
is_settled m (Array v) = is_marked m v.number
is_settled m (Scalar v) = true
is_settled m (Alike v w) = if is_marked m v.number then is_marked m w.number else not (is_marked m w.number)

-- all demands in turn
abbrev pub steps : List Demand → List Bool → List Bool
steps [] m = m
steps (d ∷ ds) m = steps ds (step d m)

-- whether one of them marks something
abbrev pub changes : List Demand → List Bool → Bool
changes [] m = false
changes (d ∷ ds) m = not (is_settled m d) || changes ds (step d m)

-- the numbers of a demand are below this one
abbrev pub IsBelow : ℕ → Demand → Type 0
IsBelow n (Array v) = v.number < n
IsBelow n (Scalar v) = v.number < n
IsBelow n (Alike v w) = (v.number < n) × (w.number < n)

abbrev pub AreBelow : ℕ → List Demand → Type 0
AreBelow n [] = Unit {0}
AreBelow n (d ∷ ds) = IsBelow n d × AreBelow n ds

-- how many are not marked
abbrev pub unmarked_count : List Bool → ℕ
unmarked_count m = sum_by (λ b. if b then 0 else 1) m

-- kinds of numbers meet a demand
abbrev pub meets_numbers : (ℕ → Bool) → Demand → Bool
meets_numbers k (Array v) = k v.number
meets_numbers k (Scalar v) = not (k v.number)
meets_numbers k (Alike v w) = if k v.number then k w.number else not (k w.number)

-- what is marked is an array, whatever kinds meet the demands
abbrev pub IsForced : (ℕ → Bool) → List Bool → Type 0
IsForced k m = (i : ℕ) → is_marked m i ≡ true → k i ≡ true
