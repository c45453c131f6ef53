-- The look of a text from outside (POSIX.1-2017, awk, "Expressions in awk"): whether it is numeric.
use Rattle.std.specs.Prelude.{◌≡◌, ℕ, ℤ, ◌&&◌, ◌||◌, ◌↔◌, Bool, true, IsTrue, if◌then◌else◌, List, [], ◌∷◌, ◌++◌, drop, Option, Some, None, Result}
use Rattle.std.specs.List.{list_all}
use Rattle.pawk_value.specs.declared.faults.Fault.{Fault}
use Rattle.pawk_value.specs.Bytes.{is_blank, is_digit, is_point}
use Rattle.pawk_value.specs.Numeral.{Parts, IsProper, spelling, after_while, begins, without_sign, has_fraction, has_exponent, unsigned_number, number_of}

abbrev pub AreBlanks : List ℕ → Type 0
AreBlanks [] = Unit {0}
AreBlanks (b ∷ s) = (is_blank b ≡ true) × AreBlanks s

-- blanks at both ends aside, all of the text is one numeral
pub record Looks (s : List ℕ) : Type 0 where
  pub before : List ℕ
  pub parts : Parts
  pub after : List ℕ
  pub blanks_before : AreBlanks before
  pub proper : IsProper parts
  pub blanks_after : AreBlanks after
  pub text : s ≡ before ++ (spelling parts ++ after)

-- a digit is in front of the point, or after it
abbrev pub has_digit : List ℕ → Bool
has_digit u = begins is_digit u || has_fraction u

-- what follows a point and digits in front
abbrev pub without_fraction : List ℕ → List ℕ
without_fraction v = if begins is_point v then after_while is_digit (drop 1 v) else v

-- what follows an exponent in front
abbrev pub without_exponent : List ℕ → List ℕ
without_exponent w = if has_exponent w then after_while is_digit (without_sign (drop 1 w)) else w

-- a numeral without its sign, and then blanks alone
abbrev pub looks_unsigned : List ℕ → Bool
looks_unsigned u = has_digit u && list_all is_blank (without_exponent (without_fraction (after_while is_digit u)))

-- the same as it is read
unfoldable pub looks : List ℕ → Bool
looks s = looks_unsigned (without_sign (after_while is_blank s))

-- the number of such a text without blanks in front and without a sign, if it is numeric
abbrev pub unsigned_candidate_number : Bool → List ℕ → Option (Result ℤ Fault)
unsigned_candidate_number negative u = if looks_unsigned u then Some (unsigned_number negative u) else None

-- the number of a text from outside, if it is numeric
abbrev pub candidate_number : List ℕ → Option (Result ℤ Fault)
candidate_number s = if looks s then Some (number_of s) else None

abbrev pub LookLaw : List ℕ → Type 0
LookLaw s = IsTrue (looks s) ↔ Looks s
