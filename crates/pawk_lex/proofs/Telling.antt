-- What the lexer reports: its causes, and where it needs memory.
use Rattle.std.proofs.Common.{◌≡◌, ℕ, Bool, true, false, ◌||◌, ◌&&◌, cond, [], ◌∷◌, drop, take, Option, Some, None, Ok, Err, refl, inl, inr}
use Rattle.std.specs.Prelude.{◌==◌, slice_index}
use Rattle.std.specs.Char.{is_ascii_digit}
use Rattle.std.specs.List.{prefix_len}
use Rattle.std.specs.Str.{bytes_eq}
use Rattle.std.proofs.lemmas.Bool.{cases_Bool}
use Rattle.pawk_lex.specs.declared.token.Mark.{Mark}
use Rattle.pawk_lex.specs.declared.refusal.Cause.{Cause}
use Rattle.pawk_lex.specs.declared.refusal.Cause.TheVariants as cause
use Rattle.pawk_lex.specs.Bytes.{Text, is_name_byte}
use Rattle.pawk_lex.specs.Tokens.{Tok}
use Rattle.pawk_lex.specs.Vocabulary.{getline, is_left_out, double, single}
use Rattle.pawk_lex.specs.Refusals.{cause_number, is_lexer_number}
use Rattle.pawk_lex.specs.declared.fault.SyntaxFault.TheVariants.{At, Memory}
use Rattle.pawk_lex.specs.Gaps.{skip, pass}
use Rattle.pawk_lex.specs.Strings.{decode, ere_length}
use Rattle.pawk_lex.specs.Next.{Finding, value_from, number_by, number, word_cause, word_unless, word, string_end, string, ere_end, ere, is_redirection, sign_unless, sign, token_at}
use Rattle.pawk_lex.specs.Cut.{Begins}
use Rattle.pawk_lex.specs.Reads.{HasBytes, CopiesBytes, NeedsMemory, WantsMemory}
use Rattle.pawk_lex.proofs.Sound.{skip_sound, token_sound}

-- a fault has one of the lexer's numbers
abbrev pub IsTold : Finding → Type 0
IsTold (Ok o) = Unit {0}
IsTold (Err (At why left)) = is_lexer_number (cause_number why) ≡ true
IsTold (Err Memory) = Unit {0}

number_by_told : (o : Option ℕ) (z rest : Text) → IsTold (number_by z o rest)
number_by_told None z rest = refl
number_by_told (Some n) z rest = elim (cases_Bool (is_name_byte (slice_index rest 0) || slice_index rest 0 == 46)) [ inl e ↦ rw e refl | inr e ↦ rw e tt ]

number_told : (z : Text) → IsTold (number z)
unfolding number
number_told z = number_by_told (value_from 0 (take (prefix_len is_ascii_digit z) z)) z _

word_unless_told : (why : Option Cause) (w z rest : Text) → word_cause w ≡ why → IsTold (word_unless z why w rest)
unfolding word_cause
word_unless_told None w z rest e = tt
word_unless_told (Some why) w z rest e = go (bytes_eq w getline) (is_left_out w) e
  where
    go : (g l : Bool) → cond g (Some cause.InputOutput) (cond l (Some cause.LeftOut) None) ≡ Some why → is_lexer_number (cause_number why) ≡ true
    go true l f = let same : cause.InputOutput ≡ why = cc in rw (← same) refl
    go false true f = let same : cause.LeftOut ≡ why = cc in rw (← same) refl
    go false false f = absurd cc

word_told : (z : Text) → IsTold (word z)
unfolding word
word_told z = word_unless_told (word_cause (take (prefix_len is_name_byte z) z)) _ z _ refl

string_end_told : (z bytes rest : Text) → IsTold (string_end z bytes rest)
string_end_told z bytes [] = refl
string_end_told z bytes (c ∷ y) = elim (cases_Bool (c == 34)) [
  | inl e ↦ rw e tt
  | inr e ↦ rw e (elim (cases_Bool (c == 92)) [ inl f ↦ rw f refl | inr f ↦ rw f refl ])
]

string_told : (z : Text) → IsTold (string z)
unfolding string
string_told z = string_end_told z (decode 0 [] (drop 1 z)).0 (decode 0 [] (drop 1 z)).1

ere_end_told : (z bytes rest : Text) → IsTold (ere_end z bytes rest)
ere_end_told z bytes [] = refl
ere_end_told z bytes (c ∷ y) = elim (cases_Bool (c == 47)) [ inl e ↦ rw e tt | inr e ↦ rw e refl ]

ere_told : (z : Text) → IsTold (ere z)
unfolding ere
ere_told z = ere_end_told z _ (pass ere_length 0 (drop 1 z))

sign_unless_told : (r : Bool) (two one : Option Mark) (z : Text) (b next : ℕ) → two ≡ double b next → one ≡ single b → IsTold (sign_unless r z b next)
sign_unless_told true two one z b next e f = refl
sign_unless_told false (Some x) one z b next e f = rw (← e) tt
sign_unless_told false None (Some x) z b next e f = rw (← e, ← f) tt
sign_unless_told false None None z b next e f = rw (← e, ← f) refl

sign_told : (z : Text) (b next : ℕ) → IsTold (sign z b next)
unfolding sign
sign_told z b next = sign_unless_told (is_redirection b next) (double b next) (single b) z b next refl refl

pub token_told : (divides : Bool) (z : Text) → IsTold (token_at divides z)
unfolding token_at
token_told divides [] = tt
token_told divides (b ∷ z) = go (is_ascii_digit b) (is_name_byte b) (b == 34) ((b == 47) && cond divides false true)
  where
    go : (d w q s : Bool) → IsTold (cond d (number (b ∷ z)) (cond w (word (b ∷ z)) (cond q (string (b ∷ z)) (cond s (ere (b ∷ z)) (sign (b ∷ z) b (slice_index z 0))))))
    go true w q s = number_told (b ∷ z)
    go false true q s = word_told (b ∷ z)
    go false false true s = string_told (b ∷ z)
    go false false false true = ere_told (b ∷ z)
    go false false false false = sign_told (b ∷ z) b (slice_index z 0)

-- ---- memory

copied : (d : Bool) (z : Text) (r : Finding) → token_at d (skip z) ≡ r → CopiesBytes r → (t : Tok) × (rest : Text) × Begins d (skip z) t rest × HasBytes t
copied d z (Ok (Some p)) e h = (p.0, p.1, token_sound d (skip z) p.0 p.1 e, h)
copied d z (Ok None) e h = absurd h
copied d z (Err f) e h = absurd h

pub wants : (d : Bool) (z y : Text) → y ≡ skip z → NeedsMemory d y → WantsMemory d z
wants d z y s h =
    let needed : NeedsMemory d (skip z) = rw s at h in
    record {
      text = skip z;
      gap = skip_sound z;
      needs = elim needed [ inl copies ↦ inl (copied d z (token_at d (skip z)) refl copies) | inr opens ↦ inr opens ];
    }
