-- The bytes that numerals are made of (POSIX.1-2017, awk, "Expressions in awk").
use Rattle.std.specs.Prelude.{ℕ, ◌==◌, ◌||◌, Bool}
use Rattle.std.specs.Char.{is_ascii_digit}

-- a space, a tab or a newline
abbrev pub is_blank : ℕ → Bool
is_blank b = (b == 32) || ((b == 9) || (b == 10))

abbrev pub is_digit : ℕ → Bool
is_digit b = is_ascii_digit b

abbrev pub is_plus : ℕ → Bool
is_plus b = b == 43

abbrev pub is_minus : ℕ → Bool
is_minus b = b == 45

abbrev pub is_sign : ℕ → Bool
is_sign b = is_plus b || is_minus b

abbrev pub is_point : ℕ → Bool
is_point b = b == 46

-- the byte before an exponent
abbrev pub is_e : ℕ → Bool
is_e b = (b == 101) || (b == 69)
