-- What the lexer finds is a token at the front of the text.
use Rattle.std.proofs.Common.{◌≡◌, ◌≤◌, ◌<◌, ℕ, zero, suc, ◌+◌, ◌-◌, Bool, true, false, ◌||◌, ◌&&◌, cond, List, [], ◌∷◌, ◌++◌, length, take, drop, Option, Some, None, Ok, refl, sym, ap, subst, ◌∙◌, arith, append_assoc}
use Rattle.std.specs.Prelude.{◌==◌, nat_lt, slice_index, find}
use Rattle.std.specs.Char.{is_ascii_digit}
use Rattle.std.specs.List.{prefix_len}
use Rattle.std.specs.Str.{bytes_eq}
use Rattle.std.proofs.lemmas.List.{take-append-drop, append-nil}
use Rattle.std.proofs.lemmas.Slice.Eq.{bytes_eq-Decides}
use Rattle.std.proofs.lemmas.Bool.{eqb-true}
use Rattle.std.proofs.lemmas.Bool.Decides.{nat_tests}
use Rattle.pawk_lex.specs.declared.token.Mark.{Mark}
use Rattle.pawk_lex.specs.declared.token.Mark.TheVariants as m
use Rattle.pawk_lex.specs.declared.token.Builtin.{Builtin}
use Rattle.pawk_lex.specs.declared.refusal.Cause.{Cause}
use Rattle.pawk_lex.specs.declared.refusal.Cause.TheVariants as cause
use Rattle.pawk_lex.specs.Bytes.{Text, is_name_byte, is_blank, is_in_line, is_octal, AllAre, BeginsBy}
use Rattle.pawk_lex.specs.Vocabulary.{mark_text, builtin_text, reserved_words, builtins, singles, doubles, mark_among, reserved_word, builtin as builtin_of, double, single}
use Rattle.pawk_lex.specs.Gaps.{gap_length, pass, skip}
use Rattle.pawk_lex.specs.Strings.{simple_escape, by_two, two_digits, three_digits, octal_escape, string_byte, decode, decode_by, after_backslash, ere_length}
use Rattle.pawk_lex.specs.Tokens.{Tok, number as number_token, string as string_token, ere as ere_token, name, function_name, mark}
use Rattle.pawk_lex.specs.Next.{finds, fails, value_from, number_by, number, word_cause, named_by, word_by, word_tok, word_unless, word, string_end, string_by, string, ere_by, ere, is_redirection, sign_by, sign_unless, sign, token_at, next}
use Rattle.pawk_lex.specs.Cut.{EndsLine, Gap, no_gap, a_blank, a_joined_line, a_comment, Inside, at_quote, itself, by_escape, one_digit, two_octal, three_octal, IsEre, no_byte, a_byte, a_pair, MarkEnds, MarkMayOccur, Writes, Begins, Takes}
use Rattle.pawk_lex.proofs.Runs.{Stops, prefix_all, prefix_first, prefix_ends, next_stops}
use Rattle.pawk_lex.proofs.Numerals.{digits_all, value_sound}
use Rattle.pawk_lex.proofs.Insides.{inside_first, taken}
use Rattle.pawk_lex.proofs.Within.{Within, token_within}

-- ---- what is found

record IsFound (t u : Tok) (rest more : Text) : Type 0 where
  token : t ≡ u
  left : rest ≡ more

same_found : (t u : Tok) (rest more : Text) → finds t rest ≡ finds u more → IsFound t u rest more
same_found t u rest more e =
    let same : ◌≡◌ {A = Tok × Text} (t, rest) (u, more) = cc in
    record { token = ap (λ (p : Tok × Text). p.0) same; left = ap (λ (p : Tok × Text). p.1) same }

rebegin : (d : Bool) (z : Text) (t u : Tok) (rest more : Text) → IsFound t u rest more → Begins d z t rest → Begins d z u more
rebegin d z t u rest more s b = rw (← s.token, ← s.left) b

or_false : (p q : Bool) → (p || q) ≡ false → (p ≡ false) × (q ≡ false)
or_false true q e = absurd cc
or_false false q e = (refl, e)

-- ---- the tables

find_passes : {A : Type 0} (p : A → Bool) (xs : List A) (x : A) → find p xs ≡ Some x → p x ≡ true
find_passes p [] x e = absurd cc
find_passes p (y ∷ ys) x e = go (find_passes p ys x) (p y) refl e
  where
    go : (find p ys ≡ Some x → p x ≡ true) → (c : Bool) → p y ≡ c → cond c (Some y) (find p ys) ≡ Some x → p x ≡ true
    go again true f g = let same : y ≡ x = cc in rw (← same) f
    go again false f g = again g

reserved_text : (w : Text) (s : Mark) → reserved_word w ≡ Some s → mark_text s ≡ w
unfolding reserved_word
reserved_text w s e = (bytes_eq-Decides (mark_text s) w).0 (find_passes (λ x. bytes_eq (mark_text x) w) reserved_words s e)

name_of_builtin : (w : Text) (f : Builtin) → builtin_of w ≡ Some f → builtin_text f ≡ w
unfolding builtin_of
name_of_builtin w f e = (bytes_eq-Decides (builtin_text f) w).0 (find_passes (λ x. bytes_eq (builtin_text x) w) builtins f e)

among_text : (xs : List Mark) (w : Text) (s : Mark) → mark_among xs w ≡ Some s → w ≡ mark_text s
among_text [] w s e = absurd cc
among_text (x ∷ xs) w s e = go (among_text xs w s) (bytes_eq w (mark_text x)) refl e
  where
    go : (mark_among xs w ≡ Some s → w ≡ mark_text s) → (c : Bool) → bytes_eq w (mark_text x) ≡ c → cond c (Some x) (mark_among xs w) ≡ Some s → w ≡ mark_text s
    go again true f g = let same : x ≡ s = cc in rw (← same) ((bytes_eq-Decides w (mark_text x)).0 f)
    go again false f g = again g

-- ---- numerals

begins_some : (p : ℕ → Bool) (t : Bool) (x : Text) → BeginsBy p t x → 0 < length x
begins_some p t [] h = absurd h
begins_some p t (b ∷ x) h = omega arith

number_sound : (d : Bool) (b : ℕ) (z : Text) (t : Tok) (rest : Text) → is_ascii_digit b ≡ true → number (b ∷ z) ≡ finds t rest → Begins d (b ∷ z) t rest
unfolding number
number_sound d b z t rest h e = go (value_from 0 x) refl e
  where
    n : ℕ
    n = prefix_len is_ascii_digit (b ∷ z)

    x : Text
    x = take n (b ∷ z)

    r : Text
    r = drop n (b ∷ z)

    flagged : (v : ℕ) → value_from 0 x ≡ Some v → (c : Bool) → (is_name_byte (slice_index r 0) || slice_index r 0 == 46) ≡ c → cond c (fails cause.Numeral (b ∷ z)) (finds (number_token v) r) ≡ finds t rest → Begins d (b ∷ z) t rest
    flagged v f true g i = absurd cc
    flagged v f false g i =
        let digits = prefix_all is_ascii_digit (b ∷ z) in
        let value = value_sound x 0 v (omega arith) digits f in
        rebegin d (b ∷ z) (number_token v) t r rest (same_found (number_token v) t r rest i) (record {
          lexeme = x;
          front = sym (take-append-drop n (b ∷ z));
          writes = record { digits = (begins_some is_ascii_digit true x (prefix_first is_ascii_digit is_ascii_digit true b z h h), digits_all x digits); value = value.0; small = value.1 };
          ends = or_false (is_name_byte (slice_index r 0)) (slice_index r 0 == 46) g;
          may_occur = tt;
        })

    go : (o : Option ℕ) → value_from 0 x ≡ o → number_by (b ∷ z) o r ≡ finds t rest → Begins d (b ∷ z) t rest
    go None f g = absurd cc
    go (Some v) f g = flagged v f (is_name_byte (slice_index r 0) || slice_index r 0 == 46) refl g

-- ---- names and words

word_ends : (w : Text) (next : ℕ) → BeginsBy is_name_byte true w → is_name_byte next ≡ false → MarkEnds w next
word_ends [] next f e = absurd f
word_ends (b ∷ w) next f e = rw f e

word_may_occur : (d : Bool) (s : Mark) → BeginsBy is_name_byte true (mark_text s) → MarkMayOccur d s
word_may_occur d m.Slash f = absurd cc
word_may_occur d m.SlashAssign f = absurd cc
word_may_occur d _ f = tt

word_begins : (d : Bool) (w r : Text) → AllAre is_name_byte w → BeginsBy is_ascii_digit false w → BeginsBy is_name_byte true w → word_cause w ≡ None → is_name_byte (slice_index r 0) ≡ false → Begins d (w ++ r) (word_tok w (slice_index r 0)) r
unfolding word_tok
word_begins d w r letters first begins allowed ends = go (reserved_word w) refl
  where
    named : reserved_word w ≡ None → builtin_of w ≡ None → (c : Bool) → (slice_index r 0 == 40) ≡ c → Begins d (w ++ r) (cond c (function_name w) (name w)) r
    named f g true h = record { lexeme = w; front = refl; writes = (refl, record { letters = letters; first = first; allowed = allowed; unreserved = f; unbuilt = g }); ends = eqb-true (slice_index r 0) 40 h; may_occur = tt }
    named f g false h = record { lexeme = w; front = refl; writes = (refl, record { letters = letters; first = first; allowed = allowed; unreserved = f; unbuilt = g }); ends = (ends, h); may_occur = tt }

    built : reserved_word w ≡ None → (o : Option Builtin) → builtin_of w ≡ o → Begins d (w ++ r) (named_by w (slice_index r 0) o) r
    built f (Some k) g = record { lexeme = w; front = refl; writes = sym (name_of_builtin w k g); ends = ends; may_occur = tt }
    built f None g = named f g (slice_index r 0 == 40) refl

    go : (o : Option Mark) → reserved_word w ≡ o → Begins d (w ++ r) (word_by w (slice_index r 0) o) r
    go (Some s) f = record {
      lexeme = w;
      front = refl;
      writes = sym (reserved_text w s f);
      ends = rw (reserved_text w s f) (word_ends w (slice_index r 0) begins ends);
      may_occur = word_may_occur d s (rw (reserved_text w s f) begins);
    }
    go None f = built f (builtin_of w) refl

word_sound : (d : Bool) (b : ℕ) (z : Text) (t : Tok) (rest : Text) → is_ascii_digit b ≡ false → is_name_byte b ≡ true → word (b ∷ z) ≡ finds t rest → Begins d (b ∷ z) t rest
unfolding word
word_sound d b z t rest f h e = go (word_cause w) refl e
  where
    n : ℕ
    n = prefix_len is_name_byte (b ∷ z)

    w : Text
    w = take n (b ∷ z)

    r : Text
    r = drop n (b ∷ z)

    whole : Begins d (w ++ r) (word_tok w (slice_index r 0)) r → Begins d (b ∷ z) (word_tok w (slice_index r 0)) r
    whole k = rw (take-append-drop n (b ∷ z)) at k

    go : (o : Option Cause) → word_cause w ≡ o → word_unless (b ∷ z) o w r ≡ finds t rest → Begins d (b ∷ z) t rest
    go (Some why) g i = absurd cc
    go None g i =
        rebegin d (b ∷ z) (word_tok w (slice_index r 0)) t r rest (same_found (word_tok w (slice_index r 0)) t r rest i)
        (whole (word_begins d w r (prefix_all is_name_byte (b ∷ z)) (prefix_first is_name_byte is_ascii_digit false b z h f) (prefix_first is_name_byte is_name_byte true b z h h) g
        (next_stops is_name_byte r refl (prefix_ends is_name_byte (b ∷ z)))))

-- ---- strings

-- where a third digit would leave the byte
no_third : (n : ℕ) (q l : Bool) → nat_lt n 256 ≡ l → (q && l) ≡ false → q ≡ true → 256 ≤ n
no_third n true true f g h = absurd cc
no_third n true false f g h = grind (arith, nat_tests)
no_third n false l f g h = absurd cc

is_below : (n : ℕ) (q l : Bool) → nat_lt n 256 ≡ l → (q && l) ≡ true → (q ≡ true) × (n < 256)
is_below n true true f g = (refl, grind (arith, nat_tests))
is_below n true false f g = absurd cc
is_below n false l f g = absurd cc

-- an escape by octal digits, after its backslash
octal_step : (a : ℕ) (z : Text) (p : ℕ × ℕ) (tail rest : Text) → is_octal a ≡ true → octal_escape a (slice_index z 0) (slice_index z 1) ≡ Some p → Inside (drop (p.1 - 1) (a ∷ z)) tail rest → Inside (92 ∷ a ∷ z) (p.0 ∷ tail) rest
unfolding octal_escape
octal_step a [] p tail rest h e i = let same : (a - 48, 2) ≡ p = cc in rw (← same) (one_digit h refl (rw (← same) at i))
octal_step a (b ∷ []) p tail rest h e i = second (is_octal b) refl e
  where
    second : (q : Bool) → is_octal b ≡ q → cond q (Some (two_digits a b, 3)) (Some (a - 48, 2)) ≡ Some p → Inside (92 ∷ a ∷ b ∷ []) (p.0 ∷ tail) rest
    second true f g = let same : (two_digits a b, 3) ≡ p = cc in rw (← same) (two_octal {z = []} h f (λ o. let bad : false ≡ true = o in absurd cc) (rw (← same) at i))
    second false f g = let same : (a - 48, 2) ≡ p = cc in rw (← same) (one_digit h f (rw (← same) at i))
octal_step a (b ∷ c ∷ z) p tail rest h e i = second (is_octal b) refl e
  where
    third : is_octal b ≡ true → (q : Bool) → (is_octal c && nat_lt (three_digits a b c) 256) ≡ q → cond q (Some (three_digits a b c, 4)) (Some (two_digits a b, 3)) ≡ Some p → Inside (92 ∷ a ∷ b ∷ c ∷ z) (p.0 ∷ tail) rest
    third k true f g =
        let parts = is_below (three_digits a b c) (is_octal c) (nat_lt (three_digits a b c) 256) refl f in
        let same : (three_digits a b c, 4) ≡ p = cc in
        rw (← same) (three_octal h k parts.0 parts.1 (rw (← same) at i))
    third k false f g =
        let same : (two_digits a b, 3) ≡ p = cc in
        rw (← same) (two_octal h k (no_third (three_digits a b c) (is_octal c) (nat_lt (three_digits a b c) 256) refl f) (rw (← same) at i))

    second : (q : Bool) → is_octal b ≡ q → cond q (cond (is_octal c && nat_lt (three_digits a b c) 256) (Some (three_digits a b c, 4)) (Some (two_digits a b, 3))) (Some (a - 48, 2)) ≡ Some p → Inside (92 ∷ a ∷ b ∷ c ∷ z) (p.0 ∷ tail) rest
    second true f g = third f (is_octal c && nat_lt (three_digits a b c) 256) refl g
    second false f g = let same : (a - 48, 2) ≡ p = cc in rw (← same) (one_digit h f (rw (← same) at i))

no_escape : simple_escape 0 ≡ None
unfolding simple_escape
no_escape = refl

-- an escape, after its backslash
escape_step : (z : Text) (p : ℕ × ℕ) (tail rest : Text) → cond (is_octal (slice_index z 0)) (octal_escape (slice_index z 0) (slice_index z 1) (slice_index z 2)) (by_two (simple_escape (slice_index z 0))) ≡ Some p → Inside (drop (p.1 - 1) z) tail rest → Inside (92 ∷ z) (p.0 ∷ tail) rest
escape_step [] p tail rest e i = let f = rw no_escape at e in absurd cc
escape_step (a ∷ z) p tail rest e i = go (is_octal a) refl e
  where
    simple : (o : Option ℕ) → simple_escape a ≡ o → by_two o ≡ Some p → Inside (92 ∷ a ∷ z) (p.0 ∷ tail) rest
    simple None f g = absurd cc
    simple (Some b) f g = let same : (b, 2) ≡ p = cc in rw (← same) (by_escape f (rw (← same) at i))

    go : (q : Bool) → is_octal a ≡ q → cond q (octal_escape a (slice_index z 0) (slice_index z 1)) (by_two (simple_escape a)) ≡ Some p → Inside (92 ∷ a ∷ z) (p.0 ∷ tail) rest
    go true f g = octal_step a z p tail rest f g i
    go false f g = simple (simple_escape a) refl g

written_step : (b : ℕ) (z : Text) (p : ℕ × ℕ) (tail rest : Text) → string_byte (b ∷ z) ≡ Some p → Inside (drop (p.1 - 1) z) tail rest → Inside (b ∷ z) (p.0 ∷ tail) rest
unfolding string_byte
written_step b z p tail rest e i = go (b == 34 || b == 10) refl (b == 92) refl e
  where
    go : (q : Bool) → (b == 34 || b == 10) ≡ q → (s : Bool) → (b == 92) ≡ s → cond q None (cond s (cond (is_octal (slice_index z 0)) (octal_escape (slice_index z 0) (slice_index z 1) (slice_index z 2)) (by_two (simple_escape (slice_index z 0)))) (Some (b, 1))) ≡ Some p → Inside (b ∷ z) (p.0 ∷ tail) rest
    go true f s g h = absurd cc
    go false f true g h = let same : b ≡ 92 = eqb-true b 92 g in rw same (escape_step z p tail rest h i)
    go false f false g h = let same : (b, 1) ≡ p = cc in rw (← same) (itself {b = b} (rw (f, g) refl) (rw (← same) at i))

record IsDecoded (front bytes z rest : Text) : Type 0 where
  tail : Text
  bytes_are : bytes ≡ front ++ tail
  inside : Inside z tail rest

decode_sound : (z : Text) (n : ℕ) (front bytes rest : Text) → decode n front z ≡ (bytes, 34 ∷ rest) → IsDecoded front bytes (drop n z) rest
decode_sound [] n front bytes rest e = let bad : ◌≡◌ {A = Text} [] (34 ∷ rest) = ap (λ (p : Text × Text). p.1) e in absurd cc
decode_sound (b ∷ z) (suc n) front bytes rest e = decode_sound z n front bytes rest e
decode_sound (b ∷ z) zero front bytes rest e = go (λ n more. decode_sound z n more bytes rest) (string_byte (b ∷ z)) refl e
  where
    go : ((n : ℕ) (more : Text) → decode n more z ≡ (bytes, 34 ∷ rest) → IsDecoded more bytes (drop n z) rest) → (o : Option (ℕ × ℕ)) → string_byte (b ∷ z) ≡ o → decode_by front (b ∷ z) (λ n ds. decode n ds z) o ≡ (bytes, 34 ∷ rest) → IsDecoded front bytes (b ∷ z) rest
    go again None f g =
        let same : front ≡ bytes = ap (λ (p : Text × Text). p.0) g in
        let left : ◌≡◌ {A = Text} (b ∷ z) (34 ∷ rest) = ap (λ (p : Text × Text). p.1) g in
        record { tail = []; bytes_are = sym same ∙ sym (append-nil front); inside = rw left at_quote }
    go again (Some p) f g =
        let k = again (p.1 - 1) (front ++ p.0 ∷ []) g in
        record { tail = p.0 ∷ k.tail; bytes_are = k.bytes_are ∙ append_assoc front (p.0 ∷ []) k.tail; inside = written_step b z p k.tail rest f k.inside }

-- the text of a string up to its quote, without what follows
record IsFronted (z bytes rest : Text) : Type 0 where
  lexeme : Text
  front : z ≡ lexeme ++ rest
  inside : Inside lexeme bytes []

first_of : {y bytes : Text} (z rest : Text) → z ≡ y ++ rest → Inside y bytes [] → slice_index z 0 ≡ slice_index y 0
first_of z rest e i = rw e (inside_first i rest)

inside_front : {z bytes rest : Text} → Inside z bytes rest → IsFronted z bytes rest
inside_front at_quote = record { lexeme = 34 ∷ []; front = refl; inside = at_quote }
inside_front (itself {b} h i) = let k = inside_front i in record { lexeme = b ∷ k.lexeme; front = ap (λ v. b ∷ v) k.front; inside = itself h k.inside }
inside_front (by_escape {e} h i) = let k = inside_front i in record { lexeme = 92 ∷ e ∷ k.lexeme; front = ap (λ v. 92 ∷ e ∷ v) k.front; inside = by_escape h k.inside }
inside_front (one_digit {a} {z} {bytes} {rest} h f i) =
    let k = inside_front i in
    let same = first_of z rest k.front k.inside in
    record { lexeme = 92 ∷ a ∷ k.lexeme; front = ap (λ v. 92 ∷ a ∷ v) k.front; inside = one_digit h (rw (← same) f) k.inside }
inside_front (two_octal {a} {b} {z} {bytes} {rest} h l f i) =
    let k = inside_front i in
    let same = first_of z rest k.front k.inside in
    record { lexeme = 92 ∷ a ∷ b ∷ k.lexeme; front = ap (λ v. 92 ∷ a ∷ b ∷ v) k.front; inside = two_octal h l (rw (← same) f) k.inside }
inside_front (three_octal {a} {b} {c} h l n f i) = let k = inside_front i in record { lexeme = 92 ∷ a ∷ b ∷ c ∷ k.lexeme; front = ap (λ v. 92 ∷ a ∷ b ∷ c ∷ v) k.front; inside = three_octal h l n f k.inside }

string_begins : (d : Bool) (z bytes rest : Text) → decode 0 [] z ≡ (bytes, 34 ∷ rest) → Begins d (34 ∷ z) (string_token bytes) rest
string_begins d z bytes rest e =
    let k = decode_sound z 0 [] bytes rest e in
    let f = inside_front k.inside in
    record { lexeme = 34 ∷ f.lexeme; front = ap (λ v. 34 ∷ v) f.front; writes = (f.lexeme, refl, let P : Text → Type 0 = λ v. Inside f.lexeme v [] in subst P (sym k.bytes_are) f.inside); ends = tt; may_occur = tt }

string_sound : (d : Bool) (z : Text) (t : Tok) (rest : Text) → string (34 ∷ z) ≡ finds t rest → Begins d (34 ∷ z) t rest
unfolding string
string_sound d z t rest e = go (decode 0 [] z) refl e
  where
    at_stop : (bytes : Text) (c : ℕ) (y : Text) → decode 0 [] z ≡ (bytes, c ∷ y) → (q : Bool) → (c == 34) ≡ q → (s : Bool) → cond q (finds (string_token bytes) y) (cond s (fails cause.Token (c ∷ y)) (fails cause.Token (34 ∷ z))) ≡ finds t rest → Begins d (34 ∷ z) t rest
    at_stop bytes c y f true g s h =
        let same : c ≡ 34 = eqb-true c 34 g in
        rebegin d (34 ∷ z) (string_token bytes) t y rest (same_found (string_token bytes) t y rest h) (string_begins d z bytes y (rw same at f))
    at_stop bytes c y f false g true h = absurd cc
    at_stop bytes c y f false g false h = absurd cc

    stopped : (bytes r : Text) → decode 0 [] z ≡ (bytes, r) → string_end (34 ∷ z) bytes r ≡ finds t rest → Begins d (34 ∷ z) t rest
    stopped bytes [] f h = absurd cc
    stopped bytes (c ∷ y) f h = at_stop bytes c y f (c == 34) refl (c == 92) h

    go : (p : Text × Text) → decode 0 [] z ≡ p → string_by (34 ∷ z) p ≡ finds t rest → Begins d (34 ∷ z) t rest
    go p f h = stopped p.0 p.1 f h

-- ---- expressions

record IsPassed (z rest : Text) : Type 0 where
  bytes : Text
  front : z ≡ bytes ++ 47 ∷ rest
  inside : IsEre bytes

either : Bool → ℕ
either q = cond q 0 2

pair_by : (c : ℕ) (y rest : Text) (q : Bool) → (c == 10) ≡ q → (either q ≡ 0 → ⊥) → IsPassed (drop (either q - 1) (c ∷ y)) rest → IsPassed (92 ∷ c ∷ y) rest
unfolding either
pair_by c y rest true f some i = absurd (some refl)
pair_by c y rest false f some i = record { bytes = 92 ∷ c ∷ i.bytes; front = ap (λ v. 92 ∷ c ∷ v) i.front; inside = a_pair f i.inside }

pair : (y rest : Text) → (after_backslash y ≡ 0 → ⊥) → IsPassed (drop (after_backslash y - 1) y) rest → IsPassed (92 ∷ y) rest
pair [] rest some i = absurd (some refl)
pair (c ∷ y) rest some i = unfold either in pair_by c y rest (c == 10) refl some i

ere_step : (b : ℕ) (z rest : Text) → (ere_length (b ∷ z) ≡ 0 → ⊥) → IsPassed (drop (ere_length (b ∷ z) - 1) z) rest → IsPassed (b ∷ z) rest
unfolding ere_length
ere_step b z rest some i = go (b == 47 || b == 10) refl (b == 92) refl some i
  where
    go : (q : Bool) → (b == 47 || b == 10) ≡ q → (s : Bool) → (b == 92) ≡ s → (cond {A = ℕ} q 0 (cond {A = ℕ} s (after_backslash z) 1) ≡ 0 → ⊥) → IsPassed (drop (cond q 0 (cond s (after_backslash z) 1) - 1) z) rest → IsPassed (b ∷ z) rest
    go true f s g some i = absurd (some refl)
    go false f true g some i = let same : b ≡ 92 = eqb-true b 92 g in rw same (pair z rest some i)
    go false f false g some i = record { bytes = b ∷ i.bytes; front = ap (λ v. b ∷ v) i.front; inside = a_byte (rw (f, g) refl) i.inside }

pass_sound : (z : Text) (n : ℕ) (rest : Text) → pass ere_length n z ≡ 47 ∷ rest → IsPassed (drop n z) rest
pass_sound [] n rest e = absurd cc
pass_sound (b ∷ z) (suc n) rest e = pass_sound z n rest e
pass_sound (b ∷ z) zero rest e = go (λ n. pass_sound z n rest) (ere_length (b ∷ z) == 0) refl e
  where
    go : ((n : ℕ) → pass ere_length n z ≡ 47 ∷ rest → IsPassed (drop n z) rest) → (q : Bool) → (ere_length (b ∷ z) == 0) ≡ q → cond q (b ∷ z) (pass ere_length (ere_length (b ∷ z) - 1) z) ≡ 47 ∷ rest → IsPassed (b ∷ z) rest
    go again true f g = record { bytes = []; front = g; inside = no_byte }
    go again false f g = ere_step b z rest (λ h. let bad : true ≡ false = rw h at f in absurd cc) (again (ere_length (b ∷ z) - 1) g)

ere_begins : (z rest : Text) → IsPassed z rest → Begins false (47 ∷ z) (ere_token (take (length z - length (47 ∷ rest)) z)) rest
ere_begins z rest k = record {
  lexeme = 47 ∷ k.bytes ++ 47 ∷ [];
  front = ap (λ v. 47 ∷ v) (k.front ∙ sym (append_assoc k.bytes (47 ∷ []) rest));
  writes = let same : take (length z - length (47 ∷ rest)) z ≡ k.bytes = ap (λ v. take (length v - length (47 ∷ rest)) v) k.front ∙ taken k.bytes rest in
      let P : Text → Type 0 = λ v. Writes (47 ∷ k.bytes ++ 47 ∷ []) (ere_token v) in
      subst P (sym same) (refl, k.inside);
  ends = tt;
  may_occur = refl;
}

ere_sound : (z : Text) (t : Tok) (rest : Text) → ere (47 ∷ z) ≡ finds t rest → Begins false (47 ∷ z) t rest
unfolding ere
ere_sound z t rest e = go (pass ere_length 0 z) refl e
  where
    at_stop : (c : ℕ) (y : Text) → pass ere_length 0 z ≡ c ∷ y → (q : Bool) → (c == 47) ≡ q → cond q (finds (ere_token (take (length z - length (c ∷ y)) z)) y) (fails cause.Token (47 ∷ z)) ≡ finds t rest → Begins false (47 ∷ z) t rest
    at_stop c y f true g h =
        let same : c ≡ 47 = eqb-true c 47 g in
        rebegin false (47 ∷ z) (ere_token (take (length z - length (c ∷ y)) z)) t y rest (same_found (ere_token (take (length z - length (c ∷ y)) z)) t y rest h) (ere_begins z y (pass_sound z 0 y (rw same at f)))
    at_stop c y f false g h = absurd cc

    go : (r : Text) → pass ere_length 0 z ≡ r → ere_by (47 ∷ z) z r ≡ finds t rest → Begins false (47 ∷ z) t rest
    go [] f h = absurd cc
    go (c ∷ y) f h = at_stop c y f (c == 47) refl h

-- ---- signs

no_both : (p : Bool) → (p && false) ≡ false
no_both true = refl
no_both false = refl

double_at_end : (b : ℕ) → double b 0 ≡ None
unfolding double
double_at_end b = simp no_both

sign_may_occur : (d : Bool) (b : ℕ) (w : Text) (s : Mark) → b ∷ w ≡ mark_text s → ((b == 47) && cond d false true) ≡ false → MarkMayOccur d s
sign_may_occur true b w m.Slash e h = refl
sign_may_occur false b w m.Slash e h = let same : b ≡ 47 = cc in let bad : true ≡ false = rw same at h in absurd cc
sign_may_occur true b w m.SlashAssign e h = refl
sign_may_occur false b w m.SlashAssign e h = let same : b ≡ 47 = cc in let bad : true ≡ false = rw same at h in absurd cc
sign_may_occur d b w _ e h = tt

double_text : (b c : ℕ) (s : Mark) → double b c ≡ Some s → b ∷ c ∷ [] ≡ mark_text s
unfolding double
double_text b c s e = among_text doubles (b ∷ c ∷ []) s e

single_text : (b : ℕ) (s : Mark) → single b ≡ Some s → b ∷ [] ≡ mark_text s
unfolding single
single_text b s e = among_text singles (b ∷ []) s e

sign_sound : (d : Bool) (b : ℕ) (z : Text) (t : Tok) (rest : Text) → is_name_byte b ≡ false → ((b == 47) && cond d false true) ≡ false → sign (b ∷ z) b (slice_index z 0) ≡ finds t rest → Begins d (b ∷ z) t rest
unfolding sign
sign_sound d b z t rest n h e = go (is_redirection b (slice_index z 0)) refl e
  where
    two : (y : Text) (s : Mark) → double b (slice_index y 0) ≡ Some s → finds (mark s) (drop 2 (b ∷ y)) ≡ finds t rest → Begins d (b ∷ y) t rest
    two [] s f i = let bad : ◌≡◌ {A = Option Mark} None (Some s) = sym (double_at_end b) ∙ f in absurd cc
    two (c ∷ y) s f i =
        let text = double_text b c s f in
        rebegin d (b ∷ c ∷ y) (mark s) t y rest (same_found (mark s) t y rest i) (record {
          lexeme = b ∷ c ∷ [];
          front = refl;
          writes = text;
          ends = rw (← text, n) tt;
          may_occur = sign_may_occur d b (c ∷ []) s text h;
        })

    one : (s : Mark) → is_redirection b (slice_index z 0) ≡ false → double b (slice_index z 0) ≡ None → single b ≡ Some s → finds (mark s) z ≡ finds t rest → Begins d (b ∷ z) t rest
    one s r f g i =
        let text = single_text b s g in
        rebegin d (b ∷ z) (mark s) t z rest (same_found (mark s) t z rest i) (record {
          lexeme = b ∷ [];
          front = refl;
          writes = text;
          ends = rw (← text, n) (f, r);
          may_occur = sign_may_occur d b [] s text h;
        })

    longest : is_redirection b (slice_index z 0) ≡ false → (o : Option Mark) → double b (slice_index z 0) ≡ o → (u : Option Mark) → single b ≡ u → sign_by (b ∷ z) o u ≡ finds t rest → Begins d (b ∷ z) t rest
    longest r (Some s) f u g i = two z s f i
    longest r None f (Some s) g i = one s r f g i
    longest r None f None g i = absurd cc

    go : (q : Bool) → is_redirection b (slice_index z 0) ≡ q → sign_unless q (b ∷ z) b (slice_index z 0) ≡ finds t rest → Begins d (b ∷ z) t rest
    go true f i = absurd cc
    go false f i = longest f (double b (slice_index z 0)) refl (single b) refl i

-- ---- all tokens

both_true : (p q : Bool) → (p && q) ≡ true → (p ≡ true) × (q ≡ true)
both_true true q e = (refl, e)
both_true false q e = absurd cc

closing : (d : Bool) → cond d false true ≡ true → d ≡ false
closing true e = absurd cc
closing false e = refl

pub token_sound : (d : Bool) (z : Text) (t : Tok) (rest : Text) → token_at d z ≡ finds t rest → Begins d z t rest
unfolding token_at
token_sound d [] t rest e = absurd cc
token_sound d (b ∷ z) t rest e = go (is_ascii_digit b) refl (is_name_byte b) refl (b == 34) refl ((b == 47) && cond d false true) refl e
  where
    slash : (b == 47) ≡ true → d ≡ false → ere (b ∷ z) ≡ finds t rest → Begins d (b ∷ z) t rest
    slash f g i =
        let same : b ≡ 47 = eqb-true b 47 f in
        let begins = ere_sound z t rest (rw same at i) in
        rw (same, g) begins

    go : (p : Bool) → is_ascii_digit b ≡ p → (w : Bool) → is_name_byte b ≡ w → (q : Bool) → (b == 34) ≡ q → (s : Bool) → ((b == 47) && cond d false true) ≡ s → cond p (number (b ∷ z)) (cond w (word (b ∷ z)) (cond q (string (b ∷ z)) (cond s (ere (b ∷ z)) (sign (b ∷ z) b (slice_index z 0))))) ≡ finds t rest → Begins d (b ∷ z) t rest
    go true f w g q h s i k = number_sound d b z t rest f k
    go false f true g q h s i k = word_sound d b z t rest f g k
    go false f false g true h s i k = let same : b ≡ 34 = eqb-true b 34 h in rw same (string_sound d z t rest (rw same at k))
    go false f false g false h true i k = let parts = both_true (b == 47) (cond d false true) i in slash parts.0 (closing d parts.1) k
    go false f false g false h false i k = sign_sound d b z t rest g i k

-- ---- what separates tokens

ends_line : (z : Text) → Stops is_in_line z → EndsLine z
ends_line [] h = tt
ends_line (b ∷ z) h = eqb-true b 10 (go (b == 10) h)
  where
    go : (c : Bool) → cond c false true ≡ false → c ≡ true
    go true e = refl
    go false e = absurd cc

joined_step : (z rest : Text) → (slice_index z 0 == 10) ≡ true → Gap (drop 1 z) rest → Gap (92 ∷ z) rest
joined_step [] rest e g = let bad : false ≡ true = e in absurd cc
joined_step (c ∷ z) rest e g = let same : c ≡ 10 = eqb-true c 10 e in rw same (a_joined_line g)

comment_step : (z rest : Text) → Gap (drop (1 + prefix_len is_in_line z - 1) z) rest → Gap (35 ∷ z) rest
comment_step z rest g =
    let n = prefix_len is_in_line z in
    let same : 1 + n - 1 ≡ n = omega arith in
    a_comment (take n z) (sym (take-append-drop n z)) (prefix_all is_in_line z) (ends_line (drop n z) (prefix_ends is_in_line z)) (rw same at g)

gap_step : (b : ℕ) (z rest : Text) → (gap_length (b ∷ z) ≡ 0 → ⊥) → Gap (drop (gap_length (b ∷ z) - 1) z) rest → Gap (b ∷ z) rest
unfolding gap_length
gap_step b z rest some g = go (is_blank b) refl (b == 92) refl (slice_index z 0 == 10) refl (b == 35) refl some g
  where
    go : (p : Bool) → is_blank b ≡ p → (q : Bool) → (b == 92) ≡ q → (j : Bool) → (slice_index z 0 == 10) ≡ j → (h : Bool) → (b == 35) ≡ h → (cond {A = ℕ} p 1 (cond {A = ℕ} (q && j) 2 (cond {A = ℕ} h (prefix_len is_in_line (b ∷ z)) 0)) ≡ 0 → ⊥) → Gap (drop (cond {A = ℕ} p 1 (cond {A = ℕ} (q && j) 2 (cond {A = ℕ} h (prefix_len is_in_line (b ∷ z)) 0)) - 1) z) rest → Gap (b ∷ z) rest
    go true f q e j i h k some g = a_blank f g
    go false f true e true i h k some g = let same : b ≡ 92 = eqb-true b 92 e in rw same (joined_step z rest i g)
    go false f true e false i true k some g = let same : b ≡ 35 = eqb-true b 35 k in rw same (comment_step z rest (rw same at g))
    go false f true e false i false k some g = absurd (some refl)
    go false f false e j i true k some g = let same : b ≡ 35 = eqb-true b 35 k in rw same (comment_step z rest (rw same at g))
    go false f false e j i false k some g = absurd (some refl)

pass_gap_sound : (z : Text) (n : ℕ) → Gap (drop n z) (pass gap_length n z)
pass_gap_sound [] zero = no_gap
pass_gap_sound [] (suc n) = no_gap
pass_gap_sound (b ∷ z) (suc n) = pass_gap_sound z n
pass_gap_sound (b ∷ z) zero = go (λ n. pass_gap_sound z n) (gap_length (b ∷ z) == 0) refl
  where
    go : ((n : ℕ) → Gap (drop n z) (pass gap_length n z)) → (q : Bool) → (gap_length (b ∷ z) == 0) ≡ q → Gap (b ∷ z) (cond q (b ∷ z) (pass gap_length (gap_length (b ∷ z) - 1) z))
    go again true f = no_gap
    go again false f = gap_step b z _ (λ h. let bad : true ≡ false = rw h at f in absurd cc) (again (gap_length (b ∷ z) - 1))

pub skip_sound : (z : Text) → Gap z (skip z)
unfolding skip
skip_sound z = pass_gap_sound z 0

-- ---- the next token

pub next_sound : (d : Bool) (z : Text) (t : Tok) (rest : Text) → next d z ≡ finds t rest → Takes d z t rest
unfolding next
next_sound d z t rest e = record { text = skip z; gap = skip_sound z; begins = token_sound d (skip z) t rest e }

at_the_end : (d : Bool) (y : Text) → token_at d y ≡ Ok None → y ≡ []
at_the_end d y e = let h : Within y (Ok None) = rw e at (token_within d y) in h

pub none_sound : (d : Bool) (z : Text) → next d z ≡ Ok None → Gap z []
unfolding next
none_sound d z e = rw (at_the_end d (skip z) e) at (skip_sound z)
