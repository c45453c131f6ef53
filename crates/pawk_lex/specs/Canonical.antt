-- One way to write each token.
use Rattle.std.specs.Prelude.{◌≤◌, ◌<◌, ℕ, ◌+◌, ◌/◌, ◌%◌, Bool, ◌&&◌, ◌||◌, if◌then◌else◌, ◌==◌, nat_le, List, [], ◌∷◌, ◌++◌}
use Rattle.std.specs.Fmt.{decimal}
use Rattle.pawk_lex.specs.Bytes.{Text, is_blank}
use Rattle.pawk_lex.specs.Vocabulary.{mark_text, builtin_text}
use Rattle.pawk_lex.specs.Tokens.{Tok, number, string, ere, name, function_name, builtin, mark}
use Rattle.pawk_lex.specs.Cut.{IsName, IsEre}

-- a byte inside quotes: a quote and a backslash after a backslash, a printable byte itself, any
-- other one by three octal digits
abbrev pub byte_text : ℕ → Text
byte_text b = if b == 34 || b == 92 then 92 ∷ b ∷ []
    else (if nat_le 32 b && nat_le b 126 then b ∷ []
    else 92 ∷ (48 + b / 64) ∷ (48 + b / 8 % 8) ∷ (48 + b % 8) ∷ [])

-- the bytes inside quotes, and the closing quote
abbrev pub string_text : Text → Text
string_text [] = 34 ∷ []
string_text (b ∷ bytes) = byte_text b ++ string_text bytes

abbrev pub token_text : Tok → Text
token_text (number n) = decimal n
token_text (string bytes) = 34 ∷ string_text bytes
token_text (ere bytes) = 47 ∷ bytes ++ 47 ∷ []
token_text (name w) = w
token_text (function_name w) = w
token_text (builtin f) = builtin_text f
token_text (mark s) = mark_text s

abbrev pub AreBytes : Text → Type 0
AreBytes [] = Unit {0}
AreBytes (b ∷ z) = (b < 256) × AreBytes z

-- some text is cut into such a token
abbrev pub IsWritable : Tok → Type 0
IsWritable (number n) = n ≤ 9223372036854775807
IsWritable (string bytes) = AreBytes bytes
IsWritable (ere bytes) = IsEre bytes
IsWritable (name w) = IsName w
IsWritable (function_name w) = IsName w
IsWritable (builtin f) = Unit {0}
IsWritable (mark s) = Unit {0}

abbrev pub AreWritable : List Tok → Type 0
AreWritable [] = Unit {0}
AreWritable (t ∷ ts) = IsWritable t × AreWritable ts

-- a byte that begins what separates tokens
abbrev pub is_separator : ℕ → Bool
is_separator b = is_blank b || b == 92 || b == 35

-- the token may end before a blank: any but a name directly before `(`
abbrev pub MayEnd : Tok → Type 0
MayEnd (function_name w) = ⊥
MayEnd _ = Unit {0}
