-- What `escape_at` reads is an escape, and it reads each.
use Rattle.std.proofs.Common.{◌≡◌, ◌↔◌, ◌⊎◌, ⊎_elim, ℕ, zero, suc, codes, slice_index, ◌+◌, ◌-◌, ◌*◌, ◌<◌, ◌≤◌, ◌&&◌, ◌==◌, Bool, true, false, cond, leb, ltb, eqb-true, Option, Some, None, List, [], ◌∷◌, ◌++◌, length, refl, sym, ap, subst, ◌∙◌, arith, inl, inr, append_assoc, length-append}
use Rattle.std.specs.Char.{digit_value}
use Rattle.std.specs.Str.Parse.{AllDigits, digits_value, digits_value_after}
use Rattle.std.proofs.lemmas.Bool.{and_parts, leb-true, ltb-true, ltb-false, lt-ltb}
use Rattle.std.proofs.lemmas.Bool.Decides.{nat_tests, eqb_tells}
use Rattle.std.proofs.lemmas.Int.Digits.{digits_value_push, digits_push}
use Rattle.std.proofs.lemmas.Str.{digit_value_digit}
use Rattle.std.proofs.lemmas.Str.Parse.{digit_from_value}
use Rattle.pawk_ere_syntax.specs.Escapes.{is_octal, is_punctuation, letters, byte_of_letter, letter, octal_more, escape_of, escape_at}
use Rattle.pawk_ere_syntax.specs.Numerals.{IsLetter, IsPunctuation, IsOctal, IsEscape}
use Rattle.pawk_ere_syntax.proofs.Reading.{some_inj}

octal_is : (c : ℕ) → is_octal c ≡ true → (digit_value c < 8) × (digit_value c ≡ c - 48)
octal_is c h =
    let p = and_parts (leb 48 c) (ltb c 56) h in
    let low = leb-true 48 c p.0 in
    let high = ltb-true c 56 p.1 in
    let v = digit_value_digit c (low, omega arith) in
    (omega arith, omega arith)

octal_from : (c : ℕ) → digit_value c < 8 → (is_octal c ≡ true) × (digit_value c ≡ c - 48)
octal_from c h =
    let range = digit_from_value c (omega arith) in
    let v = digit_value_digit c range in
    let high : c < 56 = omega arith in
    (within c range.0 high, omega arith)
  where
    within : (c : ℕ) → 48 ≤ c → c < 56 → is_octal c ≡ true
    within c l h = grind (arith, nat_tests)

refused : (v c : ℕ) → (is_octal c && ltb (v * 8 + (c - 48)) 256) ≡ false → digit_value c < 8 → 256 ≤ v * 8 + digit_value c
refused v c is h =
    let o = octal_from c h in
    let test : ltb (v * 8 + (c - 48)) 256 ≡ false = rw o.0 at is in
    omega (arith, ltb-false (v * 8 + (c - 48)) 256 test, o.1)

-- what one more octal digit makes of a number
record Step (v : ℕ) (bytes : List ℕ) (x : ℕ × List ℕ) : Type 0 where
  digits : List ℕ
  text : bytes ≡ digits ++ x.1
  all : AllDigits 8 digits
  few : length digits ≤ 1
  value : x.0 ≡ digits_value_after 8 v digits
  small : x.0 < 256
  stop : length digits ≡ 0 → (c : ℕ) (more : List ℕ) → x.1 ≡ c ∷ more → digit_value c < 8 → 256 ≤ v * 8 + digit_value c

step_is : (v : ℕ) (bytes : List ℕ) → v < 256 → Step v bytes (octal_more v bytes)
unfolding octal_more
step_is v [] lt = record { digits = []; text = refl; all = tt; few = omega arith; value = refl; small = lt; stop = λ z c more e. absurd cc }
step_is v (c ∷ rest) lt = go (is_octal c && ltb (v * 8 + (c - 48)) 256) refl
  where
    go : (b : Bool) → (is_octal c && ltb (v * 8 + (c - 48)) 256) ≡ b → Step v (c ∷ rest) (cond {A = ℕ × List ℕ} b (v * 8 + (c - 48), rest) (v, c ∷ rest))
    go true is =
        let p = and_parts (is_octal c) (ltb (v * 8 + (c - 48)) 256) is in
        let d = octal_is c p.0 in
        record { digits = c ∷ []; text = refl; all = (d.0, tt); few = omega arith; value = omega (arith, d.1); small = ltb-true (v * 8 + (c - 48)) 256 p.1; stop = λ z. absurd (omega arith) }
    go false is = record { digits = []; text = refl; all = tt; few = omega arith; value = refl; small = lt; stop = λ z k more e d. let same : c ≡ k = cc in subst (λ x. 256 ≤ v * 8 + digit_value x) same (refused v c is (subst (λ x. digit_value x < 8) (sym same) d)) }

value_append : (ds es : List ℕ) (v : ℕ) → digits_value_after 8 v (ds ++ es) ≡ digits_value_after 8 (digits_value_after 8 v ds) es
value_append [] es v = refl
value_append (d ∷ ds) es v = value_append ds es (v * 8 + digit_value d)

all_append : (ds es : List ℕ) → AllDigits 8 ds → AllDigits 8 es → AllDigits 8 (ds ++ es)
all_append [] es h k = k
all_append (d ∷ ds) es h k = (h.0, all_append ds es h.1 k)

-- the letter and the byte are side by side in the table
abbrev IsRow : List (ℕ × ℕ) → ℕ → ℕ → Type 0
IsRow [] c byte = ⊥
IsRow (r ∷ rs) c byte = ((c ≡ r.0) × (byte ≡ r.1)) ⊎ IsRow rs c byte

row_of : (rows : List (ℕ × ℕ)) (c byte : ℕ) → byte_of_letter rows c ≡ Some byte → IsRow rows c byte
row_of [] c byte h = cc
row_of (r ∷ rs) c byte h = go (c == r.0) refl h (λ same. row_of rs c byte same)
  where
    go : (b : Bool) → (c == r.0) ≡ b → cond b (Some r.1) (byte_of_letter rs c) ≡ Some byte → (byte_of_letter rs c ≡ Some byte → IsRow rs c byte) → IsRow (r ∷ rs) c byte
    go true is h again = inl (eqb-true c r.0 is, sym (some_inj r.1 byte h))
    go false is h again = inr (again h)

-- the last digit of an octal numeral
last_digit : (ds : List ℕ) (c : ℕ) → AllDigits 8 (ds ++ c ∷ []) → digit_value c < 8
last_digit [] c h = h.0
last_digit (d ∷ ds) c h = last_digit ds c h.1

-- with one digit at most after two steps, no other could be taken
still : (v : ℕ) (bytes : List ℕ) (y z : ℕ × List ℕ) (a : Step v bytes y) (b : Step y.0 y.1 z) (c : ℕ) (more : List ℕ) → z.1 ≡ c ∷ more → digit_value c < 8 → length a.digits + length b.digits < 2 → 256 ≤ z.0 * 8 + digit_value c
still v bytes y z a b c more e d few = go a.digits refl b.digits refl
  where
    go : (front : List ℕ) → a.digits ≡ front → (bs : List ℕ) → b.digits ≡ bs → 256 ≤ z.0 * 8 + digit_value c
    go front p [] q =
        let stop = b.stop (ap length q) c more e d in
        let value : z.0 ≡ y.0 = b.value ∙ ap (digits_value_after 8 y.0) q in
        omega arith
    go [] p (k ∷ []) q =
        let all : AllDigits 8 (k ∷ []) = subst (AllDigits 8) q b.all in
        let stop = a.stop (ap length p) k z.1 (b.text ∙ ap (λ l. l ++ z.1) q) all.0 in
        let value : z.0 ≡ y.0 * 8 + digit_value k = b.value ∙ ap (digits_value_after 8 y.0) q in
        let before : y.0 ≡ v = a.value ∙ ap (digits_value_after 8 v) p in
        let small = b.small in
        absurd (omega (arith, value, before, stop, small))
    go [] p (k ∷ m ∷ bs) q = let n = ap length q in let f = b.few in absurd (omega arith)
    go (j ∷ front) p (k ∷ bs) q = let n = ap length q in let m = ap length p in absurd (omega arith)

octal_escape : (c : ℕ) (rest more : List ℕ) (byte : ℕ) → is_octal c ≡ true → octal_more (octal_more (c - 48) rest).0 (octal_more (c - 48) rest).1 ≡ (byte, more) → IsEscape (c ∷ rest) byte more
octal_escape c rest more byte is h =
    let d = octal_is c is in
    let first : c - 48 ≡ 0 * 8 + digit_value c = omega (arith, d.1) in
    let a = step_is (c - 48) rest (omega arith) in
    let b : Step (octal_more (c - 48) rest).0 (octal_more (c - 48) rest).1 (byte, more) = subst (Step (octal_more (c - 48) rest).0 (octal_more (c - 48) rest).1) h (step_is (octal_more (c - 48) rest).0 (octal_more (c - 48) rest).1 a.small) in
    let value : digits_value_after 8 0 (c ∷ (a.digits ++ b.digits)) ≡ byte = sym (b.value ∙ ap (λ v. digits_value_after 8 v b.digits) (a.value ∙ ap (λ v. digits_value_after 8 v a.digits) first) ∙ sym (value_append a.digits b.digits (0 * 8 + digit_value c))) in
    let len = length-append a.digits b.digits in
    inr (inl (record {
      digits = c ∷ (a.digits ++ b.digits);
      text = ap (λ r. c ∷ r) (a.text ∙ ap (λ r. a.digits ++ r) b.text ∙ sym (append_assoc a.digits b.digits more));
      numeral = (omega arith, (d.0, all_append a.digits b.digits a.all b.all));
      few = omega (arith, a.few, b.few);
      value = value;
      small = b.small;
      longest = λ k left e n few.
          let last = last_digit (c ∷ (a.digits ++ b.digits)) k n.1 in
          let two : length a.digits + length b.digits < 2 = omega arith in
          let over = still (c - 48) rest (octal_more (c - 48) rest) (byte, more) a b k left e last two in
          let push = digits_value_push 8 (c ∷ (a.digits ++ b.digits)) k in
          omega (arith, push, value, over);
    }))

-- the letters

letter_is : (c byte : ℕ) → IsRow letters c byte → IsLetter c byte
letter_is c byte (inl h) = (0, omega arith, h.0, h.1)
letter_is c byte (inr (inl h)) = (1, omega arith, h.0, h.1)
letter_is c byte (inr (inr (inl h))) = (5, omega arith, h.0, h.1)
letter_is c byte (inr (inr (inr (inl h)))) = (3, omega arith, h.0, h.1)
letter_is c byte (inr (inr (inr (inr (inl h))))) = (6, omega arith, h.0, h.1)
letter_is c byte (inr (inr (inr (inr (inr (inl h)))))) = (2, omega arith, h.0, h.1)
letter_is c byte (inr (inr (inr (inr (inr (inr (inl h))))))) = (4, omega arith, h.0, h.1)
letter_is c byte (inr (inr (inr (inr (inr (inr (inr h))))))) = absurd h

letter_read : (c byte : ℕ) → IsLetter c byte → letter c ≡ Some byte
letter_read c byte h = go h.0 h.1 h.2 h.3
  where
    go : (i : ℕ) → i < 7 → c ≡ slice_index (codes "abtnvfr") i → byte ≡ 7 + i → letter c ≡ Some byte
    go zero l e f = rw (e, f) refl
    go (suc zero) l e f = rw (e, f) refl
    go (suc (suc zero)) l e f = rw (e, f) refl
    go (suc (suc (suc zero))) l e f = rw (e, f) refl
    go (suc (suc (suc (suc zero)))) l e f = rw (e, f) refl
    go (suc (suc (suc (suc (suc zero))))) l e f = rw (e, f) refl
    go (suc (suc (suc (suc (suc (suc zero)))))) l e f = rw (e, f) refl
    go (suc (suc (suc (suc (suc (suc (suc i))))))) l e f = absurd (omega arith)

differ : (c k : ℕ) → (c ≡ k → ⊥) → (c == k) ≡ false
differ c k n = elim (eqb_tells c k) [ inl y ↦ absurd (n y.1) | inr f ↦ f.0 ]

no_letter : (c : ℕ) → (c < 97) ⊎ (122 < c) → letter c ≡ None
no_letter c h = rw (differ c 97 (off 97 (omega arith) (omega arith)), differ c 98 (off 98 (omega arith) (omega arith)), differ c 102 (off 102 (omega arith) (omega arith)), differ c 110 (off 110 (omega arith) (omega arith)), differ c 114 (off 114 (omega arith) (omega arith)), differ c 116 (off 116 (omega arith) (omega arith)), differ c 118 (off 118 (omega arith) (omega arith))) refl
  where
    off : (k : ℕ) → 97 ≤ k → k ≤ 122 → c ≡ k → ⊥
    off k l m e = ⊎_elim (λ a. omega arith) (λ b. omega arith) h

punctuation_is : (c : ℕ) → is_punctuation c ≡ true → IsPunctuation c
punctuation_is c h = grind (arith, nat_tests)

punctuation_read : (c : ℕ) → IsPunctuation c → (is_punctuation c ≡ true) × (is_octal c ≡ false)
punctuation_read c h = (grind (arith, nat_tests), grind (arith, nat_tests))

-- ---- each is read

stops : (v : ℕ) (rest : List ℕ) → ((c : ℕ) (more : List ℕ) → rest ≡ c ∷ more → digit_value c < 8 → 256 ≤ v * 8 + digit_value c) → octal_more v rest ≡ (v, rest)
unfolding octal_more
stops v [] h = refl
stops v (c ∷ rest) h = go (is_octal c) refl (ltb (v * 8 + (c - 48)) 256) refl
  where
    go : (o : Bool) → is_octal c ≡ o → (t : Bool) → ltb (v * 8 + (c - 48)) 256 ≡ t → cond {A = ℕ × List ℕ} (o && t) (v * 8 + (c - 48), rest) (v, c ∷ rest) ≡ (v, c ∷ rest)
    go false e t f = refl
    go true e false f = refl
    go true e true f = let d = octal_is c e in let over = h c rest refl d.0 in let under = ltb-true (v * 8 + (c - 48)) 256 f in absurd (omega (arith, d.1))

takes : (v c : ℕ) (more : List ℕ) → digit_value c < 8 → v * 8 + digit_value c < 256 → octal_more v (c ∷ more) ≡ (v * 8 + digit_value c, more)
unfolding octal_more
takes v c more h l =
    let o = octal_from c h in
    let within : v * 8 + (c - 48) < 256 = omega (arith, o.1) in
    rw (o.0, lt-ltb (v * 8 + (c - 48)) 256 within) (ap (λ x. (v * 8 + x, more)) (sym o.1))

from_octal : (c : ℕ) (rest : List ℕ) (x : ℕ × List ℕ) → digit_value c < 8 → octal_more (octal_more (digit_value c) rest).0 (octal_more (digit_value c) rest).1 ≡ x → escape_at (c ∷ rest) ≡ Some x
unfolding escape_at
from_octal c rest x h e =
    let o = octal_from c h in
    let low = digit_from_value c (omega arith) in
    rw (no_letter c (inl (omega (arith, low.1))), o.0) (ap (λ v. Some (octal_more (octal_more v rest).0 (octal_more v rest).1)) (sym o.1) ∙ ap Some e)

octal_read : (bytes rest : List ℕ) (byte : ℕ) → IsOctal bytes byte rest → escape_at bytes ≡ Some (byte, rest)
octal_read bytes rest byte h = go h.digits refl
  where
    over : length h.digits < 3 → (c : ℕ) (more : List ℕ) → rest ≡ c ∷ more → digit_value c < 8 → 256 ≤ byte * 8 + digit_value c
    over few c more e d =
        let push = digits_value_push 8 h.digits c in
        let long = h.longest c more e (let n = length-append h.digits (c ∷ []) in omega arith, digits_push 8 h.digits c h.numeral.1 d) few in
        omega (arith, push, h.value)

    go : (ds : List ℕ) → h.digits ≡ ds → escape_at bytes ≡ Some (byte, rest)
    go [] e = let none = h.numeral.0 in let n = ap length e in absurd (omega arith)
    go (a ∷ []) e =
        let all : AllDigits 8 (a ∷ []) = subst (AllDigits 8) e h.numeral.1 in
        let value : digit_value a ≡ byte = (let v : 0 * 8 + digit_value a ≡ byte = ap (digits_value 8) (sym e) ∙ h.value in omega arith) in
        let n = ap length e in
        let stop = stops byte rest (over (omega arith)) in
        let text : bytes ≡ a ∷ rest = h.text ∙ ap (λ l. l ++ rest) e in
        rw text (from_octal a rest (byte, rest) all.0 (rw value (rw stop stop)))
    go (a ∷ b ∷ []) e =
        let all : AllDigits 8 (a ∷ b ∷ []) = subst (AllDigits 8) e h.numeral.1 in
        let value : digit_value a * 8 + digit_value b ≡ byte = (let v : (0 * 8 + digit_value a) * 8 + digit_value b ≡ byte = ap (digits_value 8) (sym e) ∙ h.value in omega arith) in
        let n = ap length e in
        let stop = stops byte rest (over (omega arith)) in
        let text : bytes ≡ a ∷ b ∷ rest = h.text ∙ ap (λ l. l ++ rest) e in
        let take : octal_more (digit_value a) (b ∷ rest) ≡ (byte, rest) = takes (digit_value a) b rest all.1.0 (omega (arith, h.small)) ∙ ap (λ v. (v, rest)) value in
        rw text (from_octal a (b ∷ rest) (byte, rest) all.0 (rw take stop))
    go (a ∷ b ∷ c ∷ []) e =
        let all : AllDigits 8 (a ∷ b ∷ c ∷ []) = subst (AllDigits 8) e h.numeral.1 in
        let value : (digit_value a * 8 + digit_value b) * 8 + digit_value c ≡ byte = (let v : ((0 * 8 + digit_value a) * 8 + digit_value b) * 8 + digit_value c ≡ byte = ap (digits_value 8) (sym e) ∙ h.value in omega arith) in
        let text : bytes ≡ a ∷ b ∷ c ∷ rest = h.text ∙ ap (λ l. l ++ rest) e in
        let one : octal_more (digit_value a) (b ∷ c ∷ rest) ≡ (digit_value a * 8 + digit_value b, c ∷ rest) = takes (digit_value a) b (c ∷ rest) all.1.0 (omega (arith, h.small)) in
        let two : octal_more (digit_value a * 8 + digit_value b) (c ∷ rest) ≡ (byte, rest) = takes (digit_value a * 8 + digit_value b) c rest all.1.1.0 (omega (arith, h.small)) ∙ ap (λ v. (v, rest)) value in
        rw text (from_octal a (b ∷ c ∷ rest) (byte, rest) all.0 (rw one two))
    go (a ∷ b ∷ c ∷ d ∷ ds) e = let n = ap length e in let few = h.few in absurd (omega arith)

letter_escape : (c byte : ℕ) (rest : List ℕ) → letter c ≡ Some byte → escape_at (c ∷ rest) ≡ Some (byte, rest)
unfolding escape_at
letter_escape c byte rest h = rw h refl

plain_escape : (c : ℕ) (rest : List ℕ) → IsPunctuation c → escape_at (c ∷ rest) ≡ Some (c, rest)
unfolding escape_at
plain_escape c rest h = let p = punctuation_read c h in let side : (c < 97) ⊎ (122 < c) = h.4 in rw (no_letter c side, p.1, p.0) refl

pub escape_read : (bytes rest : List ℕ) (byte : ℕ) → IsEscape bytes byte rest → escape_at bytes ≡ Some (byte, rest)
escape_read bytes rest byte (inl h) = rw h.1 (letter_escape h.0 byte rest (letter_read h.0 byte h.2))
escape_read bytes rest byte (inr (inl h)) = octal_read bytes rest byte h
escape_read bytes rest byte (inr (inr h)) = rw h.0 (plain_escape byte rest h.1)

pub escape_is : (bytes rest : List ℕ) (byte : ℕ) → escape_at bytes ≡ Some (byte, rest) → IsEscape bytes byte rest
unfolding escape_at
escape_is [] rest byte h = cc
escape_is (c ∷ more) rest byte h = go (letter c) refl h
  where
    plain : (b : Bool) → is_punctuation c ≡ b → cond {A = Option (ℕ × List ℕ)} b (Some (c, more)) None ≡ Some (byte, rest) → IsEscape (c ∷ more) byte rest
    plain true is h =
        let p = some_inj (c, more) (byte, rest) h in
        inr (inr (subst (λ r. c ∷ more ≡ c ∷ r) (ap (λ q. q.1) p) refl ∙ ap (λ b. b ∷ rest) (ap (λ q. q.0) p), subst IsPunctuation (ap (λ q. q.0) p) (punctuation_is c is)))
    plain false is h = cc

    octal : (b : Bool) → is_octal c ≡ b → cond {A = Option (ℕ × List ℕ)} b (Some (octal_more (octal_more (c - 48) more).0 (octal_more (c - 48) more).1)) (cond {A = Option (ℕ × List ℕ)} (is_punctuation c) (Some (c, more)) None) ≡ Some (byte, rest) → IsEscape (c ∷ more) byte rest
    octal true is h = octal_escape c more rest byte is (some_inj _ _ h)
    octal false is h = plain (is_punctuation c) refl h

    go : (o : Option ℕ) → letter c ≡ o → escape_of c more o ≡ Some (byte, rest) → IsEscape (c ∷ more) byte rest
    go (Some b) is h =
        let p = some_inj (b, more) (byte, rest) h in
        inl (c, ap (λ r. c ∷ r) (ap (λ q. q.1) p), subst (IsLetter c) (ap (λ q. q.0) p) (letter_is c b (row_of letters c b is)))
    go None is h = octal (is_octal c) refl h

pub escape_both : (bytes rest : List ℕ) (byte : ℕ) → (escape_at bytes ≡ Some (byte, rest)) ↔ IsEscape bytes byte rest
escape_both bytes rest byte = (escape_is bytes rest byte, escape_read bytes rest byte)
