-- Texts, and the classes of bytes that tokens are made of.
use Rattle.std.specs.Prelude.{◌≡◌, ℕ, Bool, true, false, ◌&&◌, ◌||◌, ◌==◌, nat_le, if◌then◌else◌, List, [], ◌∷◌}
use Rattle.std.specs.Char.{is_ascii_alphanumeric}

abbrev pub Text : Type 0
Text = List ℕ

-- letters, digits and underscore, of which words are made (POSIX.1-2017, awk, "Lexical Conventions": word)
abbrev pub is_name_byte : ℕ → Bool
is_name_byte b = is_ascii_alphanumeric b || b == 95

-- space and tab (XBD 7.3.1, class blank in the POSIX locale)
abbrev pub is_blank : ℕ → Bool
is_blank b = b == 32 || b == 9

-- every byte but newline
abbrev pub is_in_line : ℕ → Bool
is_in_line b = if b == 10 then false else true

abbrev pub is_octal : ℕ → Bool
is_octal b = nat_le 48 b && nat_le b 55

-- each byte of the text is of this class
abbrev pub AllAre : (ℕ → Bool) → Text → Type 0
AllAre p [] = Unit {0}
AllAre p (b ∷ z) = (p b ≡ true) × AllAre p z

-- the text has a first byte, and the test of it gives this
abbrev pub BeginsBy : (ℕ → Bool) → Bool → Text → Type 0
BeginsBy p t [] = ⊥
BeginsBy p t (b ∷ z) = p b ≡ t
