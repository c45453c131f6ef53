-- The text that a value of an assignment stands for (POSIX.1-2017, awk, "OPTIONS", -v: as a STRING token, with the table "Escape
-- Sequences in awk"). A quote and a newline stand for themselves.
use Rattle.std.specs.Prelude.{ℕ, zero, suc, ◌-◌, ◌==◌, ◌||◌, if◌then◌else◌, [], ◌∷◌, Option, Some, None}
use Rattle.std.specs.Option.{option_map}
use Rattle.pawk_lex.specs.Bytes.{Text}
use Rattle.pawk_lex.specs.Strings.{string_byte}

-- the byte that the front of a value stands for, and how many bytes write it; none where a backslash begins no escape
unfoldable pub value_byte : Text → Option (ℕ × ℕ)
value_byte [] = None
value_byte (b ∷ z) = if b == 34 || b == 10 then Some (b, 1) else string_byte (b ∷ z)

-- the byte before what the rest stands for
abbrev pub before_rest : (ℕ → Option Text) → Option (ℕ × ℕ) → Option Text
before_rest rest None = None
before_rest rest (Some p) = option_map (λ z. p.0 ∷ z) (rest (p.1 - 1))

-- what a value stands for after n bytes
abbrev pub value_from : ℕ → Text → Option Text
value_from left [] = Some []
value_from (suc left) (b ∷ z) = value_from left z
value_from zero (b ∷ z) = before_rest (λ n. value_from n z) (value_byte (b ∷ z))

-- what a value stands for; none where a backslash begins no escape
abbrev pub value_text : Text → Option Text
value_text = value_from 0
