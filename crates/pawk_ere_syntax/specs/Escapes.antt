-- Escapes of an expression's text: awk, "Regular Expressions" and the table "Escape Sequences in awk".
use Rattle.std.specs.Prelude.{ℕ, ◌+◌, ◌-◌, ◌*◌, ◌==◌, ◌||◌, ◌&&◌, Bool, Option, Some, None, List, [], ◌∷◌, nat_le, nat_lt, if◌then◌else◌}

abbrev pub is_octal : ℕ → Bool
is_octal c = nat_le 48 c && nat_lt c 56

-- ASCII punctuation
abbrev pub is_punctuation : ℕ → Bool
is_punctuation c = (nat_le 33 c && nat_lt c 48) || (nat_le 58 c && nat_lt c 65) || (nat_le 91 c && nat_lt c 97) || (nat_le 123 c && nat_lt c 127)

-- the letters after a backslash, each with the byte that it stands for: a b f n r t v
abbrev pub letters : List (ℕ × ℕ)
letters = (97, 7) ∷ (98, 8) ∷ (102, 12) ∷ (110, 10) ∷ (114, 13) ∷ (116, 9) ∷ (118, 11) ∷ []

abbrev pub byte_of_letter : List (ℕ × ℕ) → ℕ → Option ℕ
byte_of_letter [] c = None
byte_of_letter (r ∷ rs) c = if c == r.0 then Some r.1 else byte_of_letter rs c

-- the byte that a letter after a backslash stands for
abbrev pub letter : ℕ → Option ℕ
letter c = byte_of_letter letters c

-- one more octal digit, if there is one and the value stays a byte
unfoldable pub octal_more : ℕ → List ℕ → ℕ × List ℕ
octal_more v [] = (v, [])
octal_more v (c ∷ rest) = if is_octal c && nat_lt (v * 8 + (c - 48)) 256 then (v * 8 + (c - 48), rest) else (v, c ∷ rest)

-- a byte that the first character after a backslash decides, and what follows
abbrev pub escape_of : ℕ → List ℕ → Option ℕ → Option (ℕ × List ℕ)
escape_of c rest (Some byte) = Some (byte, rest)
escape_of c rest None =
    if is_octal c then (let two = octal_more (c - 48) rest in Some (octal_more two.0 two.1))
    else if is_punctuation c then Some (c, rest) else None

-- what is after a backslash: the byte that is meant, and what follows
unfoldable pub escape_at : List ℕ → Option (ℕ × List ℕ)
escape_at [] = None
escape_at (c ∷ rest) = escape_of c rest (letter c)
