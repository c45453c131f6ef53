-- How a text is cut into tokens (POSIX.1-2017, awk, "Lexical Conventions").
use Rattle.std.specs.Prelude.{◌≡◌, ◌≤◌, ◌<◌, ℕ, ◌-◌, Bool, true, false, ◌||◌, if◌then◌else◌, ◌==◌, List, [], ◌∷◌, ◌++◌, Some, None, slice_index, MatchBool}
use Rattle.std.specs.Char.{is_ascii_digit}
use Rattle.std.specs.Str.Parse.{IsNumeral, digits_value}
use Rattle.pawk_lex.specs.declared.token.Mark.{Mark}
use Rattle.pawk_lex.specs.declared.token.Mark.TheVariants as m
use Rattle.pawk_lex.specs.Bytes.{Text, is_name_byte, is_blank, is_in_line, is_octal, AllAre, BeginsBy}
use Rattle.pawk_lex.specs.Vocabulary.{mark_text, builtin_text, reserved_word, builtin as builtin_of, double}
use Rattle.pawk_lex.specs.Strings.{simple_escape, two_digits, three_digits}
use Rattle.pawk_lex.specs.Next.{word_cause, is_redirection}
use Rattle.pawk_lex.specs.Tokens.{Tok, number, string, ere, name, function_name, builtin, mark, divides_after}

-- ---- between tokens: <blank>, <backslash> before <newline>, comment

-- a comment ends before a newline or at the end of the text
abbrev pub EndsLine : Text → Type 0
EndsLine [] = Unit {0}
EndsLine (b ∷ z) = b ≡ 10

-- the text up to `rest` only separates tokens
pub data Gap : Text → Text → Type 0 where
  no_gap : {z : Text} → Gap z z
  a_blank : {b : ℕ} {z rest : Text} → is_blank b ≡ true → Gap z rest → Gap (b ∷ z) rest
  a_joined_line : {z rest : Text} → Gap z rest → Gap (92 ∷ 10 ∷ z) rest
  a_comment : {y z rest : Text} (x : Text) → y ≡ x ++ z → AllAre is_in_line x → EndsLine z →
      Gap z rest → Gap (35 ∷ y) rest

-- ---- NUMBER, NAME and FUNC_NAME

-- a name is no word with a meaning of its own
pub record IsName (w : Text) : Type 0 where
  pub letters : AllAre is_name_byte w
  pub first : BeginsBy is_ascii_digit false w
  pub allowed : word_cause w ≡ None
  pub unreserved : reserved_word w ≡ None
  pub unbuilt : builtin_of w ≡ None

-- the digits of a numeral that is not too great
pub record IsNumeralOf (n : ℕ) (x : Text) : Type 0 where
  pub digits : IsNumeral 10 x
  pub value : digits_value 10 x ≡ n
  pub small : n ≤ 9223372036854775807

-- ---- STRING and ERE

-- every byte but a quote, a backslash and a newline
abbrev pub is_ordinary : ℕ → Bool
is_ordinary b = if b == 34 || b == 10 then false else (if b == 92 then false else true)

-- the text up to `rest` writes these bytes and the closing quote;
-- a byte by octal digits is written by the longest run of at most three digits whose value is below 256
pub data Inside : Text → Text → Text → Type 0 where
  at_quote : {rest : Text} → Inside (34 ∷ rest) [] rest
  itself : {b : ℕ} {z bytes rest : Text} → is_ordinary b ≡ true → Inside z bytes rest →
      Inside (b ∷ z) (b ∷ bytes) rest
  by_escape : {e b : ℕ} {z bytes rest : Text} → simple_escape e ≡ Some b → Inside z bytes rest →
      Inside (92 ∷ e ∷ z) (b ∷ bytes) rest
  one_digit : {a : ℕ} {z bytes rest : Text} → is_octal a ≡ true →
      is_octal (slice_index z 0) ≡ false → Inside z bytes rest →
      Inside (92 ∷ a ∷ z) ((a - 48) ∷ bytes) rest
  two_octal : {a b : ℕ} {z bytes rest : Text} → is_octal a ≡ true → is_octal b ≡ true →
      (is_octal (slice_index z 0) ≡ true → 256 ≤ three_digits a b (slice_index z 0)) →
      Inside z bytes rest → Inside (92 ∷ a ∷ b ∷ z) (two_digits a b ∷ bytes) rest
  three_octal : {a b c : ℕ} {z bytes rest : Text} → is_octal a ≡ true → is_octal b ≡ true →
      is_octal c ≡ true → three_digits a b c < 256 → Inside z bytes rest →
      Inside (92 ∷ a ∷ b ∷ c ∷ z) (three_digits a b c ∷ bytes) rest

-- bytes that can occur between slashes: a backslash takes the byte after it along
abbrev pub is_plain : ℕ → Bool
is_plain b = if b == 47 || b == 10 then false else (if b == 92 then false else true)

pub data IsEre : Text → Type 0 where
  no_byte : IsEre []
  a_byte : {b : ℕ} {z : Text} → is_plain b ≡ true → IsEre z → IsEre (b ∷ z)
  a_pair : {c : ℕ} {z : Text} → (c == 10) ≡ false → IsEre z → IsEre (92 ∷ c ∷ z)

-- ---- tokens

-- the text writes the token
abbrev pub Writes : Text → Tok → Type 0
Writes x (number n) = IsNumeralOf n x
Writes x (string bytes) = (y : Text) × (x ≡ 34 ∷ y) × Inside y bytes []
Writes x (ere bytes) = (x ≡ 47 ∷ bytes ++ 47 ∷ []) × IsEre bytes
Writes x (name w) = (x ≡ w) × IsName w
Writes x (function_name w) = (x ≡ w) × IsName w
Writes x (builtin f) = x ≡ builtin_text f
Writes x (mark s) = x ≡ mark_text s

-- no longer sign, and no redirection, begins with this one
abbrev pub SignEnds : ℕ → Text → ℕ → Type 0
SignEnds b [] next = (double b next ≡ None) × (is_redirection b next ≡ false)
SignEnds b (c ∷ z) next = Unit {0}

abbrev pub MarkEnds : Text → ℕ → Type 0
MarkEnds [] next = ⊥
MarkEnds (b ∷ z) next = MatchBool (is_name_byte b) (is_name_byte next ≡ false) (SignEnds b z next)

-- the token may end before a text that begins with this byte, or, where it is 0, at the end of the text
abbrev pub Ends : Tok → ℕ → Type 0
Ends (number n) next = (is_name_byte next ≡ false) × ((next == 46) ≡ false)
Ends (string bytes) next = Unit {0}
Ends (ere bytes) next = Unit {0}
Ends (name w) next = (is_name_byte next ≡ false) × ((next == 40) ≡ false)
Ends (function_name w) next = next ≡ 40
Ends (builtin f) next = is_name_byte next ≡ false
Ends (mark s) next = MarkEnds (mark_text s) next

-- a slash divides, or it opens an expression
abbrev pub MarkMayOccur : Bool → Mark → Type 0
MarkMayOccur divides m.Slash = divides ≡ true
MarkMayOccur divides m.SlashAssign = divides ≡ true
MarkMayOccur divides _ = Unit {0}

abbrev pub MayOccur : Bool → Tok → Type 0
MayOccur divides (ere bytes) = divides ≡ false
MayOccur divides (mark s) = MarkMayOccur divides s
MayOccur divides _ = Unit {0}

-- the text begins with the token, and `rest` follows
pub record Begins (divides : Bool) (z : Text) (t : Tok) (rest : Text) : Type 0 where
  pub lexeme : Text
  pub front : z ≡ lexeme ++ rest
  pub writes : Writes lexeme t
  pub ends : Ends t (slice_index rest 0)
  pub may_occur : MayOccur divides t

-- after what separates tokens the text begins with the token, and `rest` follows
pub record Takes (divides : Bool) (z : Text) (t : Tok) (rest : Text) : Type 0 where
  pub text : Text
  pub gap : Gap z text
  pub begins : Begins divides text t rest

-- the text is cut into these tokens; the flag says that a slash at its front divides
pub data CutFrom : Bool → Text → List Tok → Type 0 where
  at_end : {divides : Bool} {z : Text} → Gap z [] → CutFrom divides z []
  a_token : {divides : Bool} {z rest : Text} {t : Tok} {ts : List Tok} → Takes divides z t rest →
      CutFrom (divides_after t) rest ts → CutFrom divides z (t ∷ ts)

abbrev pub Cut : Text → List Tok → Type 0
Cut = CutFrom false
