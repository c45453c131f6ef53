-- Kinds that marks give.
use Rattle.std.specs.Prelude.{ℕ, Bool, false, not, ◌==◌, ◌&&◌, if◌then◌else◌, List, Option, Some, None}
use Rattle.pawk_lex.specs.Vocabulary.{is_variable}
use Rattle.pawk_syntax_check.specs.declared.demand.Demand.{Demand}
use Rattle.pawk_syntax_check.specs.declared.demand.Demand.TheVariants.{Array, Scalar, Alike}
use Rattle.pawk_syntax_check.specs.declared.variables.NumberedName.{NumberedName}
use Rattle.pawk_syntax_check.specs.declared.variables.Variables.{Variables}
use Rattle.pawk_syntax_check.specs.Tables.{Name, key_view, number_of}
use Rattle.pawk_syntax_check.specs.Demands.{Kinds}
use Rattle.pawk_syntax_check.specs.Marks.{is_marked}

-- a variable of the language
abbrev pub is_given : Name → Bool
is_given v = v.0 == 0 && is_variable v.1

abbrev pub is_array : List Bool → NumberedName → Bool
is_array m v = if is_given (key_view v.key) then false else is_marked m v.number

-- the demand is met by the marks
abbrev pub meets_marks : List Bool → Demand → Bool
meets_marks m (Array v) = is_array m v
meets_marks m (Scalar v) = not (is_array m v)
meets_marks m (Alike v w) = if is_array m v then is_array m w else not (is_array m w)

abbrev pub mark_of : List Bool → Option ℕ → Bool
mark_of m None = false
mark_of m (Some i) = is_marked m i

-- the kinds that the marks of the numbers give to the names
abbrev pub kinds_of : Variables → List Bool → Kinds
kinds_of t m v = if is_given v then false else mark_of m (number_of t v)
