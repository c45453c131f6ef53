-- The token at the front of a text (POSIX.1-2017, awk, "Lexical Conventions").
use Rattle.std.specs.Prelude.{ℕ, ◌+◌, ◌-◌, ◌*◌, Bool, true, false, ◌&&◌, ◌||◌, if◌then◌else◌, ◌==◌, nat_lt, [], ◌∷◌, length, take, drop, Option, Some, None, Result, Ok, Err, slice_index}
use Rattle.std.specs.Char.{is_ascii_digit}
use Rattle.std.specs.List.{prefix_len}
use Rattle.std.specs.Str.{bytes_eq}
use Rattle.pawk_lex.specs.declared.token.Mark.{Mark}
use Rattle.pawk_lex.specs.declared.token.Builtin.{Builtin}
use Rattle.pawk_lex.specs.declared.refusal.Cause.{Cause}
use Rattle.pawk_lex.specs.declared.refusal.Cause.TheVariants as cause
use Rattle.pawk_lex.specs.declared.fault.SyntaxFault.{SyntaxFault}
use Rattle.pawk_lex.specs.declared.fault.SyntaxFault.TheVariants.{At}
use Rattle.pawk_lex.specs.Bytes.{Text, is_name_byte}
use Rattle.pawk_lex.specs.Vocabulary.{getline, reserved_word, builtin as builtin_of, is_left_out, double, single}
use Rattle.pawk_lex.specs.Gaps.{skip, pass}
use Rattle.pawk_lex.specs.Strings.{decode, ere_length}
use Rattle.pawk_lex.specs.Tokens.{Tok, number as number_token, string as string_token, ere as ere_token, name, function_name, builtin, mark}

-- a token and the text after it, nothing at the end of the text, or what is at fault
abbrev pub Finding : Type 0
Finding = Result (Option (Tok × Text)) SyntaxFault

abbrev pub finds : Tok → Text → Finding
finds t rest = Ok (Some (t, rest))

-- this is at fault at the first byte of this text
abbrev pub fails : Cause → Text → Finding
fails why z = Err (At why (length z))

-- ---- NUMBER, without fractions and exponents

-- the number that digits write after those that wrote n, if it is at most 9223372036854775807
unfoldable pub value_from : ℕ → Text → Option ℕ
value_from n [] = Some n
value_from n (b ∷ z) = if nat_lt 9223372036854775807 (10 * n + (b - 48)) then None
    else value_from (10 * n + (b - 48)) z

abbrev pub number_by : Text → Option ℕ → Text → Finding
number_by z None rest = fails cause.Numeral z
number_by z (Some n) rest = if is_name_byte (slice_index rest 0)
    || slice_index rest 0 == 46 then fails cause.Numeral z else finds (number_token n) rest

unfoldable pub number : Text → Finding
number z = number_by z (value_from 0 (take (prefix_len is_ascii_digit z) z)) (drop (prefix_len is_ascii_digit z) z)

-- ---- keywords, BUILTIN_FUNC, NAME and FUNC_NAME

-- why a word may not be used
unfoldable pub word_cause : Text → Option Cause
word_cause w = if bytes_eq w (getline) then Some cause.InputOutput
    else (if is_left_out w then Some cause.LeftOut else None)

abbrev pub named_by : Text → ℕ → Option Builtin → Tok
named_by w next (Some f) = builtin f
named_by w next None = if next == 40 then function_name w else name w

abbrev pub word_by : Text → ℕ → Option Mark → Tok
word_by w next (Some x) = mark x
word_by w next None = named_by w next (builtin_of w)

-- a reserved word, a built-in function, a name directly before `(`, or another name; next is the
-- byte after the word
unfoldable pub word_tok : Text → ℕ → Tok
word_tok w next = word_by w next (reserved_word w)

abbrev pub word_unless : Text → Option Cause → Text → Text → Finding
word_unless z (Some why) w rest = fails why z
word_unless z None w rest = finds (word_tok w (slice_index rest 0)) rest

unfoldable pub word : Text → Finding
word z = word_unless z (word_cause (take (prefix_len is_name_byte z) z)) (take (prefix_len is_name_byte z) z) (drop (prefix_len is_name_byte z) z)

-- ---- STRING and ERE

-- where a string ends that was opened at `opening`: at its quote, at a backslash that begins no
-- escape, or it has no end
abbrev pub string_end : Text → Text → Text → Finding
string_end opening bytes [] = fails cause.Token opening
string_end opening bytes (b ∷ z) = if b == 34 then finds (string_token bytes) z
    else (if b == 92 then fails cause.Token (b ∷ z) else fails cause.Token opening)

abbrev pub string_by : Text → Text × Text → Finding
string_by opening p = string_end opening p.0 p.1

unfoldable pub string : Text → Finding
string z = string_by z (decode 0 [] (drop 1 z))

abbrev pub ere_end : Text → Text → Text → Finding
ere_end opening bytes [] = fails cause.Token opening
ere_end opening bytes (b ∷ z) = if b == 47 then finds (ere_token bytes) z else fails cause.Token opening

abbrev pub ere_by : Text → Text → Text → Finding
ere_by opening body rest = ere_end opening (take (length body - length rest) body) rest

unfoldable pub ere : Text → Finding
ere z = ere_by z (drop 1 z) (pass ere_length 0 (drop 1 z))

-- ---- the two-character tokens and the single characters, the longest first

-- `|` and `>>`, which send output to a command or to the end of a file
unfoldable pub is_redirection : ℕ → ℕ → Bool
is_redirection b next = if b == 124 then (if next == 124 then false else true) else b == 62 && next == 62

abbrev pub sign_by : Text → Option Mark → Option Mark → Finding
sign_by z (Some x) one = finds (mark x) (drop 2 z)
sign_by z None (Some x) = finds (mark x) (drop 1 z)
sign_by z None None = fails cause.Token z

abbrev pub sign_unless : Bool → Text → ℕ → ℕ → Finding
sign_unless true z b next = fails cause.InputOutput z
sign_unless false z b next = sign_by z (double b next) (single b)

unfoldable pub sign : Text → ℕ → ℕ → Finding
sign z b next = sign_unless (is_redirection b next) z b next

-- ---- the token at the front of a text that begins with none of what separates tokens; the flag
-- says that a slash divides
unfoldable pub token_at : Bool → Text → Finding
token_at divides [] = Ok None
token_at divides (b ∷ z) =
    if is_ascii_digit b then number (b ∷ z) else (if is_name_byte b then word (b ∷ z)
    else (if b == 34 then string (b ∷ z)
    else (if (b == 47) && (if divides then false else true) then ere (b ∷ z)
    else sign (b ∷ z) b (slice_index z 0))))

unfoldable pub next : Bool → Text → Finding
next divides z = token_at divides (skip z)
