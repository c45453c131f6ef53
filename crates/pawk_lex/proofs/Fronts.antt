-- A text that begins with a token: the lexer finds it.
use Rattle.std.proofs.Common.{◌≡◌, ◌≢◌, ℕ, Bool, true, false, [], ◌∷◌, ◌++◌, length, drop, Some, None, Ok, refl, sym, ap, ◌∙◌, inl, inr, append_assoc}
use Rattle.std.specs.Prelude.{◌==◌, slice_index}
use Rattle.std.specs.Char.{is_ascii_digit}
use Rattle.std.specs.List.{list_all}
use Rattle.std.proofs.Math.Seq.{take-append_seam, drop-append_seam}
use Rattle.std.proofs.lemmas.Bool.{cases_Bool, eqb-true, false≢true}
use Rattle.pawk_lex.specs.declared.token.Mark.{Mark}
use Rattle.pawk_lex.specs.declared.token.Mark.TheVariants as m
use Rattle.pawk_lex.specs.declared.token.Builtin.{Builtin}
use Rattle.pawk_lex.specs.declared.token.Builtin.TheVariants as b
use Rattle.pawk_lex.specs.Bytes.{Text, is_name_byte, is_blank, is_in_line, AllAre, BeginsBy}
use Rattle.pawk_lex.specs.Vocabulary.{mark_text, builtin_text, reserved_word, builtin as builtin_of, double, single, is_left_out_arithmetic, is_left_out_output, is_left_out_variable}
use Rattle.pawk_lex.specs.Gaps.{gap_length, pass, skip}
use Rattle.pawk_lex.specs.Tokens.{Tok, number as number_token, string as string_token, ere as ere_token, name, function_name, builtin, mark}
use Rattle.pawk_lex.specs.Next.{finds, value_from, number, word_cause, word_tok, word, string_by, string, ere_by, ere, is_redirection, sign, token_at, next}
use Rattle.pawk_lex.specs.Cut.{EndsLine, Gap, no_gap, a_blank, a_joined_line, a_comment, IsName, Inside, IsEre, MarkEnds, Ends, MarkMayOccur, MayOccur, Writes, Begins, Takes}
use Rattle.pawk_lex.proofs.Runs.{Stops, stops, run, all_from_test}
use Rattle.pawk_lex.proofs.Numerals.{all_digits, begins_digit, value_is}
use Rattle.pawk_lex.proofs.Passing.{pass_stops, pass_goes}
use Rattle.pawk_lex.proofs.Insides.{decode_inside, inside_more, pass_ere, taken}

-- ---- numerals

digit_in_name : (b : ℕ) → is_ascii_digit b ≡ true → is_name_byte b ≡ true
digit_in_name b e = rw e refl

pub no_digit : (b : ℕ) → is_name_byte b ≡ false → is_ascii_digit b ≡ false
no_digit b e = elim (cases_Bool (is_ascii_digit b)) [ inl f ↦ absurd (let g = digit_in_name b f in false≢true (rw e at g)) | inr f ↦ f ]

number_runs : (x rest : Text) (n : ℕ) → AllAre is_ascii_digit x → value_from 0 x ≡ Some n → is_name_byte (slice_index rest 0) ≡ false → (slice_index rest 0 == 46) ≡ false → number (x ++ rest) ≡ finds (number_token n) rest
unfolding number
number_runs x rest n h e k p = rw (run is_ascii_digit x rest h (stops is_ascii_digit rest (no_digit (slice_index rest 0) k)), take-append_seam x rest, drop-append_seam x rest, e, k, p) refl

number_front : (d : Bool) (x rest : Text) (n : ℕ) → AllAre is_ascii_digit x → BeginsBy is_ascii_digit true x → value_from 0 x ≡ Some n → is_name_byte (slice_index rest 0) ≡ false → (slice_index rest 0 == 46) ≡ false → token_at d (x ++ rest) ≡ finds (number_token n) rest
unfolding token_at
number_front d [] rest n h f e k p = absurd f
number_front d (b ∷ x) rest n h f e k p = rw f (number_runs (b ∷ x) rest n h e k p)

-- ---- names and words

word_runs : (x rest : Text) → AllAre is_name_byte x → is_name_byte (slice_index rest 0) ≡ false → word_cause x ≡ None → word (x ++ rest) ≡ finds (word_tok x (slice_index rest 0)) rest
unfolding word
word_runs x rest h e r = rw (run is_name_byte x rest h (stops is_name_byte rest e), take-append_seam x rest, drop-append_seam x rest, r) refl

word_front : (d : Bool) (x rest : Text) → AllAre is_name_byte x → BeginsBy is_ascii_digit false x → is_name_byte (slice_index rest 0) ≡ false → word_cause x ≡ None → token_at d (x ++ rest) ≡ finds (word_tok x (slice_index rest 0)) rest
unfolding token_at
word_front d [] rest h f e r = absurd f
word_front d (b ∷ x) rest h f e r = rw (h.0, f) (word_runs (b ∷ x) rest h e r)

name_tok : (w : Text) (next : ℕ) → IsName w → (next == 40) ≡ false → word_tok w next ≡ name w
unfolding word_tok
name_tok w next h e = rw (h.unreserved, h.unbuilt, e) refl

function_tok : (w : Text) → IsName w → word_tok w 40 ≡ function_name w
unfolding word_tok
function_tok w h = rw (h.unreserved, h.unbuilt) refl

reserved_tok : (w : Text) (next : ℕ) (s : Mark) → reserved_word w ≡ Some s → word_tok w next ≡ mark s
unfolding word_tok
reserved_tok w next s e = rw e refl

builtin_tok : (w : Text) (next : ℕ) (f : Builtin) → reserved_word w ≡ None → builtin_of w ≡ Some f → word_tok w next ≡ builtin f
unfolding word_tok
builtin_tok w next f r e = rw (r, e) refl

keyword_front : (s : Mark) (d : Bool) (w rest : Text) → list_all is_name_byte w ≡ true → BeginsBy is_ascii_digit false w → word_cause w ≡ None → reserved_word w ≡ Some s → is_name_byte (slice_index rest 0) ≡ false → token_at d (w ++ rest) ≡ finds (mark s) rest
keyword_front s d w rest h f r v e = word_front d w rest (all_from_test is_name_byte w h) f e r ∙ ap (λ t. finds t rest) (reserved_tok w (slice_index rest 0) s v)

builtin_front : (f : Builtin) (d : Bool) (w rest : Text) → list_all is_name_byte w ≡ true → BeginsBy is_ascii_digit false w → word_cause w ≡ None → reserved_word w ≡ None → builtin_of w ≡ Some f → is_name_byte (slice_index rest 0) ≡ false → token_at d (w ++ rest) ≡ finds (builtin f) rest
builtin_front f d w rest h g r v u e = word_front d w rest (all_from_test is_name_byte w h) g e r ∙ ap (λ t. finds t rest) (builtin_tok w (slice_index rest 0) f v u)

builtins_front : (f : Builtin) (d : Bool) (rest : Text) → is_name_byte (slice_index rest 0) ≡ false → token_at d (builtin_text f ++ rest) ≡ finds (builtin f) rest
unfolding word_cause reserved_word builtin_of is_left_out_arithmetic is_left_out_output is_left_out_variable
builtins_front b.Length d rest h = builtin_front b.Length d (builtin_text b.Length) rest refl refl refl refl refl h
builtins_front b.Index d rest h = builtin_front b.Index d (builtin_text b.Index) rest refl refl refl refl refl h
builtins_front b.Substr d rest h = builtin_front b.Substr d (builtin_text b.Substr) rest refl refl refl refl refl h
builtins_front b.Split d rest h = builtin_front b.Split d (builtin_text b.Split) rest refl refl refl refl refl h
builtins_front b.Sub d rest h = builtin_front b.Sub d (builtin_text b.Sub) rest refl refl refl refl refl h
builtins_front b.Gsub d rest h = builtin_front b.Gsub d (builtin_text b.Gsub) rest refl refl refl refl refl h
builtins_front b.Match d rest h = builtin_front b.Match d (builtin_text b.Match) rest refl refl refl refl refl h
builtins_front b.Sprintf d rest h = builtin_front b.Sprintf d (builtin_text b.Sprintf) rest refl refl refl refl refl h
builtins_front b.Tolower d rest h = builtin_front b.Tolower d (builtin_text b.Tolower) rest refl refl refl refl refl h
builtins_front b.Toupper d rest h = builtin_front b.Toupper d (builtin_text b.Toupper) rest refl refl refl refl refl h
builtins_front b.Int d rest h = builtin_front b.Int d (builtin_text b.Int) rest refl refl refl refl refl h

-- ---- signs

single_runs : (b : ℕ) (s : Mark) (rest : Text) → single b ≡ Some s → double b (slice_index rest 0) ≡ None → is_redirection b (slice_index rest 0) ≡ false → sign (b ∷ rest) b (slice_index rest 0) ≡ finds (mark s) rest
unfolding sign
single_runs b s rest e f r = rw (r, f, e) refl

double_runs : (b c : ℕ) (s : Mark) (rest : Text) → double b c ≡ Some s → is_redirection b c ≡ false → sign (b ∷ c ∷ rest) b c ≡ finds (mark s) rest
unfolding sign
double_runs b c s rest e r = rw (r, e) refl

mark_front : (s : Mark) (d : Bool) (rest : Text) → MarkEnds (mark_text s) (slice_index rest 0) → MarkMayOccur d s → token_at d (mark_text s ++ rest) ≡ finds (mark s) rest
unfolding token_at single double is_redirection word_cause reserved_word is_left_out_arithmetic is_left_out_output is_left_out_variable
mark_front m.Newline d rest h s = single_runs 10 m.Newline rest refl h.0 h.1
mark_front m.LeftBrace d rest h s = single_runs 123 m.LeftBrace rest refl h.0 h.1
mark_front m.RightBrace d rest h s = single_runs 125 m.RightBrace rest refl h.0 h.1
mark_front m.LeftParenthesis d rest h s = single_runs 40 m.LeftParenthesis rest refl h.0 h.1
mark_front m.RightParenthesis d rest h s = single_runs 41 m.RightParenthesis rest refl h.0 h.1
mark_front m.LeftBracket d rest h s = single_runs 91 m.LeftBracket rest refl h.0 h.1
mark_front m.RightBracket d rest h s = single_runs 93 m.RightBracket rest refl h.0 h.1
mark_front m.Semicolon d rest h s = single_runs 59 m.Semicolon rest refl h.0 h.1
mark_front m.Comma d rest h s = single_runs 44 m.Comma rest refl h.0 h.1
mark_front m.Plus d rest h s = single_runs 43 m.Plus rest refl h.0 h.1
mark_front m.Minus d rest h s = single_runs 45 m.Minus rest refl h.0 h.1
mark_front m.Star d rest h s = single_runs 42 m.Star rest refl h.0 h.1
mark_front m.Slash d rest h s = rw s (single_runs 47 m.Slash rest refl h.0 h.1)
mark_front m.Percent d rest h s = single_runs 37 m.Percent rest refl h.0 h.1
mark_front m.Caret d rest h s = single_runs 94 m.Caret rest refl h.0 h.1
mark_front m.Not d rest h s = single_runs 33 m.Not rest refl h.0 h.1
mark_front m.Greater d rest h s = single_runs 62 m.Greater rest refl h.0 h.1
mark_front m.Less d rest h s = single_runs 60 m.Less rest refl h.0 h.1
mark_front m.Question d rest h s = single_runs 63 m.Question rest refl h.0 h.1
mark_front m.Colon d rest h s = single_runs 58 m.Colon rest refl h.0 h.1
mark_front m.Tilde d rest h s = single_runs 126 m.Tilde rest refl h.0 h.1
mark_front m.Dollar d rest h s = single_runs 36 m.Dollar rest refl h.0 h.1
mark_front m.Assign d rest h s = single_runs 61 m.Assign rest refl h.0 h.1
mark_front m.PlusAssign d rest h s = double_runs 43 61 m.PlusAssign rest refl refl
mark_front m.MinusAssign d rest h s = double_runs 45 61 m.MinusAssign rest refl refl
mark_front m.StarAssign d rest h s = double_runs 42 61 m.StarAssign rest refl refl
mark_front m.SlashAssign d rest h s = rw s (double_runs 47 61 m.SlashAssign rest refl refl)
mark_front m.PercentAssign d rest h s = double_runs 37 61 m.PercentAssign rest refl refl
mark_front m.CaretAssign d rest h s = double_runs 94 61 m.CaretAssign rest refl refl
mark_front m.Equal d rest h s = double_runs 61 61 m.Equal rest refl refl
mark_front m.LessEqual d rest h s = double_runs 60 61 m.LessEqual rest refl refl
mark_front m.GreaterEqual d rest h s = double_runs 62 61 m.GreaterEqual rest refl refl
mark_front m.NotEqual d rest h s = double_runs 33 61 m.NotEqual rest refl refl
mark_front m.NotMatch d rest h s = double_runs 33 126 m.NotMatch rest refl refl
mark_front m.PlusPlus d rest h s = double_runs 43 43 m.PlusPlus rest refl refl
mark_front m.MinusMinus d rest h s = double_runs 45 45 m.MinusMinus rest refl refl
mark_front m.And d rest h s = double_runs 38 38 m.And rest refl refl
mark_front m.Or d rest h s = double_runs 124 124 m.Or rest refl refl
mark_front m.Begin d rest h s = keyword_front m.Begin d (mark_text m.Begin) rest refl refl refl refl h
mark_front m.End d rest h s = keyword_front m.End d (mark_text m.End) rest refl refl refl refl h
mark_front m.Function d rest h s = keyword_front m.Function d (mark_text m.Function) rest refl refl refl refl h
mark_front m.If d rest h s = keyword_front m.If d (mark_text m.If) rest refl refl refl refl h
mark_front m.Else d rest h s = keyword_front m.Else d (mark_text m.Else) rest refl refl refl refl h
mark_front m.While d rest h s = keyword_front m.While d (mark_text m.While) rest refl refl refl refl h
mark_front m.For d rest h s = keyword_front m.For d (mark_text m.For) rest refl refl refl refl h
mark_front m.Do d rest h s = keyword_front m.Do d (mark_text m.Do) rest refl refl refl refl h
mark_front m.In d rest h s = keyword_front m.In d (mark_text m.In) rest refl refl refl refl h
mark_front m.Break d rest h s = keyword_front m.Break d (mark_text m.Break) rest refl refl refl refl h
mark_front m.Continue d rest h s = keyword_front m.Continue d (mark_text m.Continue) rest refl refl refl refl h
mark_front m.Next d rest h s = keyword_front m.Next d (mark_text m.Next) rest refl refl refl refl h
mark_front m.NextFile d rest h s = keyword_front m.NextFile d (mark_text m.NextFile) rest refl refl refl refl h
mark_front m.Exit d rest h s = keyword_front m.Exit d (mark_text m.Exit) rest refl refl refl refl h
mark_front m.Return d rest h s = keyword_front m.Return d (mark_text m.Return) rest refl refl refl refl h
mark_front m.Delete d rest h s = keyword_front m.Delete d (mark_text m.Delete) rest refl refl refl refl h
mark_front m.Print d rest h s = keyword_front m.Print d (mark_text m.Print) rest refl refl refl refl h
mark_front m.Printf d rest h s = keyword_front m.Printf d (mark_text m.Printf) rest refl refl refl refl h

-- ---- strings and expressions

string_runs : (y rest bytes : Text) → Inside (y ++ rest) bytes rest → string (34 ∷ y ++ rest) ≡ finds (string_token bytes) rest
unfolding string
string_runs y rest bytes i = ap (λ p. string_by (34 ∷ y ++ rest) p) (decode_inside i [])

string_front : (d : Bool) (y rest bytes : Text) → Inside y bytes [] → token_at d (34 ∷ y ++ rest) ≡ finds (string_token bytes) rest
unfolding token_at
string_front d y rest bytes i = string_runs y rest bytes (inside_more i rest)

ere_runs : (bytes rest : Text) → IsEre bytes → ere (47 ∷ bytes ++ 47 ∷ rest) ≡ finds (ere_token bytes) rest
unfolding ere
ere_runs bytes rest i =
    ap (λ r. ere_by (47 ∷ bytes ++ 47 ∷ rest) (bytes ++ 47 ∷ rest) r) (pass_ere i rest) ∙ ap (λ x. finds (ere_token x) rest) (taken bytes rest)

ere_front : (d : Bool) (bytes rest : Text) → IsEre bytes → d ≡ false → token_at d (47 ∷ bytes ++ 47 ∷ rest) ≡ finds (ere_token bytes) rest
unfolding token_at
ere_front d bytes rest i s = rw s (ere_runs bytes rest i)

-- ---- all tokens

pub front : (d : Bool) (t : Tok) (x rest : Text) → Writes x t → Ends t (slice_index rest 0) → MayOccur d t → token_at d (x ++ rest) ≡ finds t rest
front d (number_token n) x rest w e s =
    number_front d x rest n (all_digits x w.digits.1) (begins_digit x w.digits.0 w.digits.1) (value_is 0 n x w.digits.1 w.value w.small) e.0 e.1
front d (string_token bytes) x rest w e s = rw w.1 (string_front d w.0 rest bytes w.2)
front d (ere_token bytes) x rest w e s = rw (w.0, append_assoc bytes (47 ∷ []) rest) (ere_front d bytes rest w.1 s)
front d (name y) x rest w e s = rw w.0 (word_front d y rest w.1.letters w.1.first e.0 w.1.allowed ∙ ap (λ t. finds t rest) (name_tok y (slice_index rest 0) w.1 e.1))
front d (function_name y) x rest w e s =
    let free : is_name_byte (slice_index rest 0) ≡ false = rw e refl in
    rw w.0 (word_front d y rest w.1.letters w.1.first free w.1.allowed ∙ ap (λ t. finds t rest) (ap (λ n. word_tok y n) e ∙ function_tok y w.1))
front d (builtin f) x rest w e s = rw w (builtins_front f d rest e)
front d (mark k) x rest w e s = rw w (mark_front k d rest e s)

pub begins_found : {d : Bool} {z rest : Text} {t : Tok} → Begins d z t rest → token_at d z ≡ finds t rest
begins_found {d} {z} {rest} {t} b = rw b.front (front d t b.lexeme rest b.writes b.ends b.may_occur)

-- ---- what separates tokens

pass_by : (lead : Text → ℕ) (n : ℕ) (z : Text) → lead z ≡ n → n ≢ 0 → pass lead 0 z ≡ pass lead 0 (drop n z)
pass_by lead n z e some = let goes : lead z ≢ 0 = λ f. some (sym e ∙ f) in pass_goes lead z goes ∙ ap (λ k. pass lead 0 (drop k z)) e

blank_length : (b : ℕ) (z : Text) → is_blank b ≡ true → gap_length (b ∷ z) ≡ 1
unfolding gap_length
blank_length b z e = rw e refl

joined_length : (z : Text) → gap_length (92 ∷ 10 ∷ z) ≡ 2
unfolding gap_length
joined_length z = refl

line_stops : (z : Text) → EndsLine z → Stops is_in_line z
line_stops [] e = tt
line_stops (b ∷ z) e = rw e refl

comment_length : (x z : Text) → AllAre is_in_line x → EndsLine z → gap_length (35 ∷ x ++ z) ≡ length (35 ∷ x)
unfolding gap_length
comment_length x z h e = run is_in_line (35 ∷ x) z (refl, h) (line_stops z e)

pub pass_gap : {z y : Text} → Gap z y → pass gap_length 0 z ≡ pass gap_length 0 y
pass_gap no_gap = refl
pass_gap (a_blank {b} {z} h g) = pass_by gap_length 1 (b ∷ z) (blank_length b z h) (λ e. cc) ∙ pass_gap g
pass_gap (a_joined_line {z} g) = pass_by gap_length 2 (92 ∷ 10 ∷ z) (joined_length z) (λ e. cc) ∙ pass_gap g
pass_gap (a_comment {y} {z} x is h e g) =
    rw is (pass_by gap_length (length (35 ∷ x)) (35 ∷ x ++ z) (comment_length x z h e) (λ f. cc) ∙ ap (λ v. pass gap_length 0 v) (drop-append_seam (35 ∷ x) z) ∙ pass_gap g)

pub skip_gap : {z y : Text} → Gap z y → gap_length y ≡ 0 → skip z ≡ y
unfolding skip
skip_gap {z} {y} g e = pass_gap g ∙ pass_stops gap_length y e

-- no token begins with what begins a gap
no_space : (d : Bool) (z : Text) (t : Tok) (rest : Text) → token_at d (32 ∷ z) ≡ finds t rest → ⊥
unfolding token_at sign is_redirection double single
no_space d z t rest e = absurd cc

no_tab : (d : Bool) (z : Text) (t : Tok) (rest : Text) → token_at d (9 ∷ z) ≡ finds t rest → ⊥
unfolding token_at sign is_redirection double single
no_tab d z t rest e = absurd cc

no_hash : (d : Bool) (z : Text) (t : Tok) (rest : Text) → token_at d (35 ∷ z) ≡ finds t rest → ⊥
unfolding token_at sign is_redirection double single
no_hash d z t rest e = absurd cc

no_backslash : (d : Bool) (z : Text) (t : Tok) (rest : Text) → token_at d (92 ∷ z) ≡ finds t rest → ⊥
unfolding token_at sign is_redirection double single
no_backslash d z t rest e = absurd cc

differs : (d : Bool) (b k : ℕ) (z : Text) (t : Tok) (rest : Text) → (token_at d (k ∷ z) ≡ finds t rest → ⊥) → token_at d (b ∷ z) ≡ finds t rest → (b == k) ≡ false
differs d b k z t rest dead e = elim (cases_Bool (b == k)) [ inl f ↦ absurd (dead (let same : b ≡ k = eqb-true b k f in rw same at e)) | inr f ↦ f ]

pub solid : (d : Bool) (z : Text) (t : Tok) (rest : Text) → token_at d z ≡ finds t rest → gap_length z ≡ 0
unfolding gap_length
solid d [] t rest e = refl
solid d (b ∷ z) t rest e =
    rw (differs d b 32 z t rest (no_space d z t rest) e, differs d b 9 z t rest (no_tab d z t rest) e, differs d b 92 z t rest (no_backslash d z t rest) e, differs d b 35 z t rest (no_hash d z t rest) e) refl

pub takes_found : {d : Bool} {z rest : Text} {t : Tok} → Takes d z t rest → next d z ≡ finds t rest
unfolding next
takes_found {d} {z} {rest} {t} k =
    let f = begins_found k.begins in
    rw (skip_gap k.gap (solid d k.text t rest f)) f

nothing_left : gap_length [] ≡ 0
unfolding gap_length
nothing_left = refl

pub gap_none : (d : Bool) (z : Text) → Gap z [] → next d z ≡ Ok None
unfolding next token_at
gap_none d z g = rw (skip_gap g nothing_left) refl
