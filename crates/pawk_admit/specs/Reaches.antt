-- What the records of a program come to: its rules, and the functions that are called there or in a function that is reached.
use Rattle.std.specs.Prelude.{ℕ, ◌⊎◌, Contains}
use Rattle.pawk_code.specs.Programs.{Code}
use Rattle.pawk_admit.specs.declared.occurrence.Occurrence.{Occurrence}
use Rattle.pawk_admit.specs.declared.occurrence.Occurrence.TheVariants.{Call}
use Rattle.pawk_admit.specs.Occurrences.{of_rules, of_function}

-- functions by their slots
pub data Reached (code : Code) : ℕ → Type 0 where
  from_rules : (f : ℕ) → Contains (of_rules code.rules) (Call f) → Reached code f
  from_function : (f g : ℕ) → Reached code f → Contains (of_function code.functions f) (Call g) → Reached code g

-- something occurs in a rule or in a function that is reached
abbrev pub Occurs : Code → Occurrence → Type 0
Occurs code o =
    Contains (of_rules code.rules) o
    ⊎ ((f : ℕ) × Reached code f × Contains (of_function code.functions f) o)
