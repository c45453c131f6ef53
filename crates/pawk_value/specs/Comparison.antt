-- The comparison of values (POSIX.1-2017, awk, "Expressions in awk", in the POSIX locale).
use Rattle.std.specs.Prelude.{◌≡◌, ◌⊎◌, ℕ, ℤ, ◌<◌, ◌↔◌, ◌&&◌, if◌then◌else◌, List, ◌∷◌, ◌++◌, Result, Ok, Err}
use Rattle.std.specs.declared.cmp.Ordering.{Ordering}
use Rattle.std.specs.declared.cmp.Ordering.TheVariants.{Less, Equal, Greater}
use Rattle.std.specs.Ordering.{int_cmp, nat_cmp}
use Rattle.std.specs.Cmp.Lexicographic.{slice_cmp}
use Rattle.pawk_value.specs.declared.faults.Fault.{Fault}
use Rattle.pawk_value.specs.Value.{Val}
use Rattle.pawk_value.specs.Conversion.{num_of, text_of, is_numeric}

-- the left side is converted first
abbrev pub number_order : Result ℤ Fault → Result ℤ Fault → Result Ordering Fault
number_order (Err f) y = Err f
number_order (Ok a) (Err f) = Err f
number_order (Ok a) (Ok b) = Ok (int_cmp a b)

-- texts are compared byte by byte
abbrev pub text_order : List ℕ → List ℕ → Ordering
text_order s t = slice_cmp nat_cmp s t

-- two numeric sides are compared as numbers, else both as texts
abbrev pub comparison : Val → Val → Result Ordering Fault
comparison x y = if is_numeric x && is_numeric y then number_order (num_of x) (num_of y) else Ok (text_order (text_of x) (text_of y))

-- s is a proper beginning of t, or the two first differ at a byte that is less in s
abbrev pub Precedes : List ℕ → List ℕ → Type 0
Precedes s t = (p : List ℕ) × (((b : ℕ) × (u : List ℕ) × (s ≡ p) × (t ≡ p ++ b ∷ u)) ⊎ ((a b : ℕ) × (v u : List ℕ) × (a < b) × (s ≡ p ++ a ∷ v) × (t ≡ p ++ b ∷ u)))

abbrev pub TextOrderLaw : List ℕ → List ℕ → Type 0
TextOrderLaw s t = ((text_order s t ≡ Less) ↔ Precedes s t) × ((text_order s t ≡ Equal) ↔ (s ≡ t)) × ((text_order s t ≡ Greater) ↔ Precedes t s)
