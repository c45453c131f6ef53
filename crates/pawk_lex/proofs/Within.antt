-- Each token passes a byte, and what is at fault is a byte of the text.
use Rattle.std.proofs.Common.{◌≡◌, ◌≤◌, ◌<◌, ℕ, zero, suc, ◌-◌, Bool, true, false, ◌||◌, ◌&&◌, cond, [], ◌∷◌, ◌++◌, length, take, drop, Option, Some, None, Ok, Err, refl, arith, inl, inr}
use Rattle.std.specs.Prelude.{◌==◌, slice_index}
use Rattle.std.specs.Char.{is_ascii_digit}
use Rattle.std.specs.List.{prefix_len}
use Rattle.std.proofs.lemmas.List.{length-drop}
use Rattle.std.proofs.lemmas.Bool.{cases_Bool}
use Rattle.pawk_lex.specs.declared.token.Mark.{Mark}
use Rattle.pawk_lex.specs.declared.refusal.Cause.{Cause}
use Rattle.pawk_lex.specs.declared.fault.SyntaxFault.TheVariants.{At, Memory}
use Rattle.pawk_lex.specs.Bytes.{Text, is_name_byte}
use Rattle.pawk_lex.specs.Vocabulary.{double, single}
use Rattle.pawk_lex.specs.Gaps.{gap_length, skip, pass}
use Rattle.pawk_lex.specs.Strings.{string_byte, decode, decode_by, ere_length}
use Rattle.pawk_lex.specs.Next.{Finding, fails, value_from, number_by, number, word_cause, word_unless, word, string_end, string, ere_end, ere, is_redirection, sign_by, sign_unless, sign, token_at, next}
use Rattle.pawk_lex.proofs.Passing.{pass_shorter}

pub skip_shorter : (z : Text) → length (skip z) ≤ length z
unfolding skip
skip_shorter z = pass_shorter gap_length 0 z

-- the text after a token is shorter, a fault is at one of its bytes, and there is a token or a fault where a byte is
abbrev pub Within : Text → Finding → Type 0
Within z (Ok (Some p)) = length p.1 < length z
Within z (Ok None) = z ≡ []
Within z (Err (At why left)) = (1 ≤ left) × (left ≤ length z)
Within z (Err Memory) = Unit {0}

some_prefix : (p : ℕ → Bool) (b : ℕ) (z : Text) → p b ≡ true → length (drop (prefix_len p (b ∷ z)) (b ∷ z)) < length (b ∷ z)
some_prefix p b z e =
    let n = prefix_len p z in
    rw (length-drop (prefix_len p (b ∷ z)) (b ∷ z)) (rw e (omega arith))

fails_here : (why : Cause) (b : ℕ) (z : Text) → Within (b ∷ z) (fails why (b ∷ z))
fails_here why b z = (omega arith, omega arith)

number_by_within : (o : Option ℕ) (b : ℕ) (z rest : Text) → length rest < length (b ∷ z) → Within (b ∷ z) (number_by (b ∷ z) o rest)
number_by_within None b z rest h = (omega arith, omega arith)
number_by_within (Some n) b z rest h = elim (cases_Bool (is_name_byte (slice_index rest 0) || slice_index rest 0 == 46)) [ inl e ↦ rw e (omega arith, omega arith) | inr e ↦ rw e h ]

number_within : (b : ℕ) (z : Text) → is_ascii_digit b ≡ true → Within (b ∷ z) (number (b ∷ z))
unfolding number
number_within b z e = number_by_within (value_from 0 (take (prefix_len is_ascii_digit (b ∷ z)) (b ∷ z))) b z (drop (prefix_len is_ascii_digit (b ∷ z)) (b ∷ z)) (some_prefix is_ascii_digit b z e)

word_unless_within : (o : Option Cause) (b : ℕ) (z w rest : Text) → length rest < length (b ∷ z) → Within (b ∷ z) (word_unless (b ∷ z) o w rest)
word_unless_within None b z w rest h = h
word_unless_within (Some why) b z w rest h = (omega arith, omega arith)

word_within : (b : ℕ) (z : Text) → is_name_byte b ≡ true → Within (b ∷ z) (word (b ∷ z))
unfolding word
word_within b z e = word_unless_within (word_cause (take (prefix_len is_name_byte (b ∷ z)) (b ∷ z))) b z _ _ (some_prefix is_name_byte b z e)

decode_shorter : (n : ℕ) (ds z : Text) → length (decode n ds z).1 ≤ length z
decode_shorter n ds [] = omega arith
decode_shorter (suc n) ds (b ∷ z) = omega (arith, decode_shorter n ds z)
decode_shorter zero ds (b ∷ z) = elim (string_byte (b ∷ z)) as (λ o. length (decode_by ds (b ∷ z) (λ n es. decode n es z) o).1 ≤ length (b ∷ z)) [
  | None ↦ omega arith
  | Some p ↦ omega (arith, decode_shorter (p.1 - 1) (ds ++ p.0 ∷ []) z)
]

string_end_within : (b : ℕ) (z bytes rest : Text) → length rest ≤ length z → Within (b ∷ z) (string_end (b ∷ z) bytes rest)
string_end_within b z bytes [] h = (omega arith, omega arith)
string_end_within b z bytes (c ∷ y) h = elim (cases_Bool (c == 34)) [
  | inl e ↦ rw e (omega arith)
  | inr e ↦ rw e (elim (cases_Bool (c == 92)) [ inl f ↦ rw f (omega arith, omega arith) | inr f ↦ rw f (omega arith, omega arith) ])
]

string_within : (b : ℕ) (z : Text) → Within (b ∷ z) (string (b ∷ z))
unfolding string
string_within b z = string_end_within b z (decode 0 [] z).0 (decode 0 [] z).1 (decode_shorter 0 [] z)

ere_end_within : (b : ℕ) (z bytes rest : Text) → length rest ≤ length z → Within (b ∷ z) (ere_end (b ∷ z) bytes rest)
ere_end_within b z bytes [] h = (omega arith, omega arith)
ere_end_within b z bytes (c ∷ y) h = elim (cases_Bool (c == 47)) [ inl e ↦ rw e (omega arith) | inr e ↦ rw e (omega arith, omega arith) ]

ere_within : (b : ℕ) (z : Text) → Within (b ∷ z) (ere (b ∷ z))
unfolding ere
ere_within b z = ere_end_within b z _ (pass ere_length 0 z) (pass_shorter ere_length 0 z)

sign_by_within : (two one : Option Mark) (b : ℕ) (z : Text) → Within (b ∷ z) (sign_by (b ∷ z) two one)
sign_by_within (Some x) one b z = rw (length-drop 2 (b ∷ z)) (omega arith)
sign_by_within None (Some x) b z = rw (length-drop 1 (b ∷ z)) (omega arith)
sign_by_within None None b z = (omega arith, omega arith)

sign_unless_within : (r : Bool) (b next : ℕ) (z : Text) → Within (b ∷ z) (sign_unless r (b ∷ z) b next)
sign_unless_within true b next z = (omega arith, omega arith)
sign_unless_within false b next z = sign_by_within (double b next) (single b) b z

sign_within : (b next : ℕ) (z : Text) → Within (b ∷ z) (sign (b ∷ z) b next)
unfolding sign
sign_within b next z = sign_unless_within (is_redirection b next) b next z

pub token_within : (divides : Bool) (z : Text) → Within z (token_at divides z)
unfolding token_at
token_within divides [] = refl
token_within divides (b ∷ z) = go (is_ascii_digit b) refl (is_name_byte b) refl (b == 34) ((b == 47) && cond divides false true)
  where
    go : (d : Bool) → is_ascii_digit b ≡ d → (w : Bool) → is_name_byte b ≡ w → (q s : Bool) → Within (b ∷ z) (cond d (number (b ∷ z)) (cond w (word (b ∷ z)) (cond q (string (b ∷ z)) (cond s (ere (b ∷ z)) (sign (b ∷ z) b (slice_index z 0))))))
    go true e w f q s = number_within b z e
    go false e true f q s = word_within b z f
    go false e false f true s = string_within b z
    go false e false f false true = ere_within b z
    go false e false f false false = sign_within b (slice_index z 0) z

-- the same of the next token, which may be none also where bytes are left
abbrev pub NextWithin : Text → Finding → Type 0
NextWithin z (Ok (Some p)) = length p.1 < length z
NextWithin z (Ok None) = Unit {0}
NextWithin z (Err (At why left)) = (1 ≤ left) × (left ≤ length z)
NextWithin z (Err Memory) = Unit {0}

pub next_within : (divides : Bool) (z : Text) → NextWithin z (next divides z)
unfolding next
next_within divides z = go (token_at divides (skip z)) (token_within divides (skip z))
  where
    go : (r : Finding) → Within (skip z) r → NextWithin z r
    go (Ok (Some p)) h = omega (arith, skip_shorter z)
    go (Ok None) h = tt
    go (Err (At why left)) h = (h.0, omega (arith, skip_shorter z))
    go (Err Memory) h = tt
