-- What a name stands for (POSIX.1-2017, awk, "Variables and Special Variables" and "User-Defined Functions": a parameter hides
-- the variable of its name).
use Rattle.std.specs.Prelude.{ℕ, Bool, List, [], ◌∷◌, Option, Some, None, codes, if◌then◌else◌}
use Rattle.std.specs.Str.{bytes_eq}
use Rattle.pawk_lex.specs.Bytes.{Text}
use Rattle.pawk_syntax_check.specs.Demands.{Kinds}
use Rattle.pawk_code.specs.declared.name.Array.{Array}
use Rattle.pawk_code.specs.declared.name.Array.TheVariants as array
use Rattle.pawk_code.specs.declared.name.Variable.{Variable}
use Rattle.pawk_code.specs.declared.name.Variable.TheVariants as variable
use Rattle.pawk_code.specs.declared.leaf.Special.{Special}
use Rattle.pawk_code.specs.declared.leaf.Special.TheVariants as special
use Rattle.pawk_code.specs.Expressions.{Leaf, global, local}
use Rattle.pawk_code.specs.Expressions as code
use Rattle.pawk_resolve.specs.Slots.{place, slot}

-- the names of a program, by their slots
pub record Globals : Type 0 where
  pub kinds : Kinds
  pub scalars : List Text
  pub arrays : List Text
  pub functions : List Text
  pub expressions : List Text

-- the names in the item of this number, which may have parameters
pub record Scope : Type 0 where
  pub globals : Globals
  pub item : ℕ
  pub parameters : List Text

-- the first of the pairs with this text
abbrev pub special_in : List (Text × Special) → Text → Option Special
special_in [] x = None
special_in (p ∷ ps) x = if bytes_eq x p.0 then Some p.1 else special_in ps x

-- the variables that the run sets
abbrev pub specials : List (Text × Special)
specials = (codes "NR", special.Nr) ∷ (codes "NF", special.Nf) ∷ (codes "FNR", special.Fnr) ∷
    (codes "FILENAME", special.Filename) ∷ (codes "RSTART", special.Rstart) ∷ (codes "RLENGTH", special.Rlength) ∷ []

unfoldable pub special_of : Text → Option Special
special_of = special_in specials

-- a variable: a parameter before all, a variable that the run sets, else a global one
abbrev pub leaf_at : Option ℕ → Option Special → ℕ → Leaf
leaf_at (Some i) set_by_run n = local i
leaf_at None (Some s) n = code.special s
leaf_at None None n = global n

abbrev pub leaf_of : Scope → Text → Leaf
leaf_of s x = leaf_at (place s.parameters x) (special_of x) (slot s.globals.scalars x)

abbrev pub variable_at : Option ℕ → ℕ → Variable
variable_at (Some i) n = variable.Local i
variable_at None n = variable.Global n

abbrev pub variable_of : Scope → Text → Variable
variable_of s x = variable_at (place s.parameters x) (slot s.globals.scalars x)

abbrev pub array_at : Option ℕ → ℕ → Array
array_at (Some i) n = array.Local i
array_at None n = array.Global n

abbrev pub array_of : Scope → Text → Array
array_of s x = array_at (place s.parameters x) (slot s.globals.arrays x)

-- the number of the item whose own a name is, or 0
abbrev pub owner : ℕ → Option ℕ → ℕ
owner n (Some i) = n
owner n None = 0

abbrev pub is_array : Scope → Text → Bool
is_array s x = s.globals.kinds (owner s.item (place s.parameters x), x)
