-- The names that slots stand for.
use Rattle.std.specs.Prelude.{◌≡◌, ℕ, zero, suc, List, [], ◌∷◌, None, false, codes}
use Rattle.pawk_lex.specs.Bytes.{Text}
use Rattle.pawk_code.specs.declared.name.Array.{Array}
use Rattle.pawk_code.specs.declared.name.Array.TheVariants as array
use Rattle.pawk_code.specs.declared.name.Variable.{Variable}
use Rattle.pawk_code.specs.declared.name.Variable.TheVariants as variable
use Rattle.pawk_code.specs.declared.leaf.Special.{Special}
use Rattle.pawk_code.specs.declared.leaf.Special.TheVariants as special
use Rattle.pawk_resolve.specs.Slots.{place}
use Rattle.pawk_resolve.specs.Scopes.{Scope, is_array}

-- the text in this place, counted from 0
abbrev pub name_at : List Text → ℕ → Text
name_at [] n = []
name_at (x ∷ xs) zero = x
name_at (x ∷ xs) (suc n) = name_at xs n

-- each occurs once
abbrev pub AreDifferent : List Text → Type 0
AreDifferent [] = Unit {0}
AreDifferent (x ∷ xs) = (place xs x ≡ None) × AreDifferent xs

-- the variables that the run sets (POSIX.1-2017, awk, "Variables and Special Variables")
abbrev pub special_name : Special → Text
special_name special.Nr = codes "NR"
special_name special.Nf = codes "NF"
special_name special.Fnr = codes "FNR"
special_name special.Filename = codes "FILENAME"
special_name special.Rstart = codes "RSTART"
special_name special.Rlength = codes "RLENGTH"

abbrev pub array_name : Scope → Array → Text
array_name s (array.Global n) = name_at s.globals.arrays n
array_name s (array.Local n) = name_at s.parameters n

abbrev pub variable_name : Scope → Variable → Text
variable_name s (variable.Global n) = name_at s.globals.scalars n
variable_name s (variable.Local n) = name_at s.parameters n

-- Tables without repetition; what the run sets is a scalar, and neither a parameter nor in a table.
pub record AreTables (s : Scope) : Type 0 where
  pub parameters : AreDifferent s.parameters
  pub scalars : AreDifferent s.globals.scalars
  pub arrays : AreDifferent s.globals.arrays
  pub functions : AreDifferent s.globals.functions
  pub expressions : AreDifferent s.globals.expressions
  pub no_parameter : (x : Special) → place s.parameters (special_name x) ≡ None
  pub no_scalar : (x : Special) → place s.globals.scalars (special_name x) ≡ None
  pub no_array : (x : Special) → is_array s (special_name x) ≡ false
