-- What a value writes, byte by byte.
use Rattle.std.proofs.Common.{◌≡◌, ◌≢◌, ◌⊎◌, inl, inr, ⊎_elim, ℕ, zero, suc, ◌+◌, ◌-◌, ◌*◌, ◌<◌, ◌≤◌, ◌&&◌, ◌||◌, ◌==◌, Bool, true, false, cond, leb, ltb, eq-eqb, eqb-true, Option, Some, None, List, [], ◌∷◌, ◌++◌, codes, slice_index, length, drop, refl, sym, ap, subst, ◌∙◌, arith, length-append}
use Rattle.std.specs.Option.{option_map}
use Rattle.std.specs.Char.{digit_value}
use Rattle.std.specs.Str.Parse.{AllDigits, digits_value}
use Rattle.std.proofs.lemmas.Bool.{and_parts, leb-true, ltb-true, ltb-false, lt-ltb, le-ltb}
use Rattle.std.proofs.lemmas.Bool.Decides.{nat_tests, eqb_tells}
use Rattle.std.proofs.lemmas.Int.Digits.{digits_value_push, digits_push}
use Rattle.std.proofs.lemmas.Str.{digit_value_digit}
use Rattle.std.proofs.lemmas.Str.Parse.{digit_from_value}
use Rattle.pawk_lex.specs.Bytes.{Text, is_octal}
use Rattle.pawk_lex.specs.Strings.{string_byte, simple_escape, octal_escape, by_two, two_digits, three_digits}
use Rattle.pawk_settings.specs.Escapes.{value_byte, value_from, value_text, before_rest}
use Rattle.pawk_settings.specs.ValueLaw.{IsSimple, IsOctal, WritesByte, WritesAll, ValueLaw, IsInside, StringLaw}
use Rattle.pawk_settings.proofs.ValueLemmas.{next_byte}

-- ---- octal digits

octal_is : (c : ℕ) → is_octal c ≡ true → (digit_value c < 8) × (c - 48 ≡ digit_value c)
octal_is c h =
    let p = and_parts (leb 48 c) (leb c 55) h in
    let low = leb-true 48 c p.0 in
    let high = leb-true c 55 p.1 in
    let v = digit_value_digit c (low, omega arith) in
    (omega arith, omega arith)

octal_from : (c : ℕ) → digit_value c < 8 → (is_octal c ≡ true) × (c - 48 ≡ digit_value c)
octal_from c h =
    let range = digit_from_value c (omega arith) in
    let v = digit_value_digit c range in
    let high : c ≤ 55 = omega arith in
    (within c range.0 high, omega arith)
  where
    within : (c : ℕ) → 48 ≤ c → c ≤ 55 → is_octal c ≡ true
    within c l h = grind (arith, nat_tests)

last_digit : (ds : List ℕ) (c : ℕ) → AllDigits 8 (ds ++ c ∷ []) → digit_value c < 8
last_digit [] c h = h.0
last_digit (d ∷ ds) c h = last_digit ds c h.1

two_is : (a b : ℕ) → is_octal a ≡ true → is_octal b ≡ true → two_digits a b ≡ digit_value a * 8 + digit_value b
two_is a b h k = let p = octal_is a h in let q = octal_is b k in omega (arith, p.1, q.1)

three_is : (a b c : ℕ) → is_octal a ≡ true → is_octal b ≡ true → is_octal c ≡ true → three_digits a b c ≡ (digit_value a * 8 + digit_value b) * 8 + digit_value c
three_is a b c h k l = let p = two_is a b h k in let q = octal_is c l in omega (arith, p, q.1)

one : (a : ℕ) (z : Text) → is_octal a ≡ true → is_octal (slice_index z 0) ≡ false → IsOctal (a ∷ z) (a - 48) z
one a z h none =
    let p = octal_is a h in
    record {
      digits = a ∷ [];
      spelled = refl;
      numeral = (omega arith, (p.0, tt));
      few = omega arith;
      value = omega (arith, p.1);
      small = omega (arith, p.0, p.1);
      longest = λ c more e n few. absurd (
          let d = octal_from c (last_digit (a ∷ []) c n.1) in
          let no : is_octal c ≡ false = ap (λ l. is_octal (slice_index l 0)) (sym e) ∙ none in
          let both = sym d.0 ∙ no in cc);
    }

two : (a b : ℕ) (z : Text) → is_octal a ≡ true → is_octal b ≡ true → (is_octal (slice_index z 0) && ltb (three_digits a b (slice_index z 0)) 256) ≡ false → IsOctal (a ∷ b ∷ z) (two_digits a b) z
two a b z h k none =
    let p = octal_is a h in
    let q = octal_is b k in
    let t = two_is a b h k in
    record {
      digits = a ∷ b ∷ [];
      spelled = refl;
      numeral = (omega arith, (p.0, (q.0, tt)));
      few = omega arith;
      value = omega (arith, t);
      small = omega (arith, t, p.0, q.0);
      longest = λ c more e n few.
          let d = octal_from c (last_digit (a ∷ b ∷ []) c n.1) in
          let no : (is_octal c && ltb (three_digits a b c) 256) ≡ false = ap (λ l. is_octal (slice_index l 0) && ltb (three_digits a b (slice_index l 0)) 256) (sym e) ∙ none in
          let over : ltb (three_digits a b c) 256 ≡ false = rw d.0 at no in
          let high = ltb-false (three_digits a b c) 256 over in
          let v = three_is a b c h k d.0 in
          omega (arith, high, v);
    }

three : (a b c : ℕ) (z : Text) → is_octal a ≡ true → is_octal b ≡ true → is_octal c ≡ true → ltb (three_digits a b c) 256 ≡ true → IsOctal (a ∷ b ∷ c ∷ z) (three_digits a b c) z
three a b c z h k l small =
    let v = three_is a b c h k l in
    record {
      digits = a ∷ b ∷ c ∷ [];
      spelled = refl;
      numeral = (omega arith, ((octal_is a h).0, ((octal_is b k).0, ((octal_is c l).0, tt))));
      few = omega arith;
      value = omega (arith, v);
      small = ltb-true (three_digits a b c) 256 small;
      longest = λ d more e n few. absurd (omega arith);
    }

some_inj : {A : Type 0} (x y : A) → Some x ≡ Some y → x ≡ y
some_inj x y h = cc

pair_of : (P : ℕ → Text → Type 0) (text : Text) (x : ℕ × ℕ) (byte n : ℕ) → Some x ≡ Some (byte, n) → P x.0 (drop x.1 text) → P byte (drop n text)
pair_of P text x byte n e h = subst (λ (y : ℕ × ℕ). P y.0 (drop y.1 text)) (some_inj x (byte, n) e) h

octal_there : (z : Text) (byte n : ℕ) → is_octal (slice_index z 0) ≡ true → octal_escape (slice_index z 0) (slice_index z 1) (slice_index z 2) ≡ Some (byte, n) → IsOctal z byte (drop n (92 ∷ z))
unfolding octal_escape
octal_there [] byte n h e = absurd cc
octal_there (a ∷ []) byte n h e = pair_of (IsOctal (a ∷ [])) (92 ∷ a ∷ []) (a - 48, 2) byte n e (one a [] h refl)
octal_there (a ∷ b ∷ z) byte n h e = go (is_octal b) refl e
  where
    last : (v : Bool) → (is_octal (slice_index z 0) && ltb (three_digits a b (slice_index z 0)) 256) ≡ v → is_octal b ≡ true → cond {A = Option (ℕ × ℕ)} v (Some (three_digits a b (slice_index z 0), 4)) (Some (two_digits a b, 3)) ≡ Some (byte, n) → IsOctal (a ∷ b ∷ z) byte (drop n (92 ∷ a ∷ b ∷ z))
    last false is k e = pair_of (IsOctal (a ∷ b ∷ z)) (92 ∷ a ∷ b ∷ z) (two_digits a b, 3) byte n e (two a b z h k is)
    last true is k e = pair_of (IsOctal (a ∷ b ∷ z)) (92 ∷ a ∷ b ∷ z) (three_digits a b (slice_index z 0), 4) byte n e (full z k is)
      where
        full : (z : Text) → is_octal b ≡ true → (is_octal (slice_index z 0) && ltb (three_digits a b (slice_index z 0)) 256) ≡ true → IsOctal (a ∷ b ∷ z) (three_digits a b (slice_index z 0)) (drop 4 (92 ∷ a ∷ b ∷ z))
        full [] k is = absurd cc
        full (c ∷ z) k is = let p = and_parts (is_octal c) (ltb (three_digits a b c) 256) is in three a b c z h k p.0 p.1

    go : (v : Bool) → is_octal b ≡ v → cond {A = Option (ℕ × ℕ)} v (cond {A = Option (ℕ × ℕ)} (is_octal (slice_index z 0) && ltb (three_digits a b (slice_index z 0)) 256) (Some (three_digits a b (slice_index z 0), 4)) (Some (two_digits a b, 3))) (Some (a - 48, 2)) ≡ Some (byte, n) → IsOctal (a ∷ b ∷ z) byte (drop n (92 ∷ a ∷ b ∷ z))
    go false is e = pair_of (IsOctal (a ∷ b ∷ z)) (92 ∷ a ∷ b ∷ z) (a - 48, 2) byte n e (one a (b ∷ z) h is)
    go true is e = last (is_octal (slice_index z 0) && ltb (three_digits a b (slice_index z 0)) 256) refl is e

-- a text writes the byte by its first n bytes
abbrev Reads : Text → ℕ → Text → Type 0
Reads text byte rest = (n : ℕ) × (string_byte text ≡ Some (byte, n)) × (drop n text ≡ rest)

reads_octal : (a : ℕ) (z : Text) (x : ℕ × ℕ) → is_octal a ≡ true → octal_escape a (slice_index z 0) (slice_index z 1) ≡ Some x → string_byte (92 ∷ a ∷ z) ≡ Some x
unfolding string_byte
reads_octal a z x h e = rw h e

octal_back : (z rest : Text) (byte : ℕ) → IsOctal z byte rest → Reads (92 ∷ z) byte rest
unfolding octal_escape
octal_back z rest byte h = go h.digits refl
  where
    over : length h.digits < 3 → (c : ℕ) (more : Text) → rest ≡ c ∷ more → digit_value c < 8 → 256 ≤ byte * 8 + digit_value c
    over few c more e d =
        let push = digits_value_push 8 h.digits c in
        let long = h.longest c more e (let n = length-append h.digits (c ∷ []) in omega arith, digits_push 8 h.digits c h.numeral.1 d) few in
        omega (arith, push, h.value)

    no_second : (a : ℕ) (rest : Text) → a < 8 → ((c : ℕ) (more : Text) → rest ≡ c ∷ more → digit_value c < 8 → 256 ≤ a * 8 + digit_value c) → is_octal (slice_index rest 0) ≡ false
    no_second a [] l o = refl
    no_second a (c ∷ more) l o = test (is_octal c) refl
      where
        test : (v : Bool) → is_octal c ≡ v → is_octal c ≡ false
        test false e = e
        test true e = let d = octal_is c e in let high = o c more refl d.0 in absurd (omega (arith, d.0))

    no_third : (a b : ℕ) (rest : Text) → is_octal a ≡ true → is_octal b ≡ true → ((c : ℕ) (more : Text) → rest ≡ c ∷ more → digit_value c < 8 → 256 ≤ (digit_value a * 8 + digit_value b) * 8 + digit_value c)
        → (is_octal (slice_index rest 0) && ltb (three_digits a b (slice_index rest 0)) 256) ≡ false
    no_third a b [] h k o = refl
    no_third a b (c ∷ more) h k o = test (is_octal c) refl
      where
        test : (v : Bool) → is_octal c ≡ v → (v && ltb (three_digits a b c) 256) ≡ false
        test false e = refl
        test true e = let d = octal_is c e in let high = o c more refl d.0 in le-ltb (three_digits a b c) 256 (omega (arith, three_is a b c h k e))

    go : (ds : List ℕ) → h.digits ≡ ds → Reads (92 ∷ z) byte rest
    go [] e = let none = h.numeral.0 in let n = ap length e in absurd (omega arith)
    go (a ∷ []) e =
        let all : AllDigits 8 (a ∷ []) = subst (AllDigits 8) e h.numeral.1 in
        let is = octal_from a all.0 in
        let value : digit_value a ≡ byte = (let v : 0 * 8 + digit_value a ≡ byte = ap (digits_value 8) (sym e) ∙ h.value in omega arith) in
        let n = ap length e in
        let text : z ≡ a ∷ rest = h.spelled ∙ ap (λ l. l ++ rest) e in
        let none = no_second byte rest (omega (arith, all.0)) (over (omega arith)) in
        let first : octal_escape a (slice_index rest 0) (slice_index rest 1) ≡ Some (byte, 2) = rw none (ap (λ b. Some (b, 2)) (is.1 ∙ value)) in
        rw text (2, reads_octal a rest (byte, 2) is.0 first, refl)
    go (a ∷ b ∷ []) e =
        let all : AllDigits 8 (a ∷ b ∷ []) = subst (AllDigits 8) e h.numeral.1 in
        let is = octal_from a all.0 in
        let next = octal_from b all.1.0 in
        let value : digit_value a * 8 + digit_value b ≡ byte = (let v : (0 * 8 + digit_value a) * 8 + digit_value b ≡ byte = ap (digits_value 8) (sym e) ∙ h.value in omega arith) in
        let n = ap length e in
        let text : z ≡ a ∷ b ∷ rest = h.spelled ∙ ap (λ l. l ++ rest) e in
        let none = no_third a b rest is.0 next.0 (λ c more left d. let o = over (omega arith) c more left d in omega arith) in
        let first : octal_escape a (slice_index (b ∷ rest) 0) (slice_index (b ∷ rest) 1) ≡ Some (byte, 3) = rw (next.0, none) (ap (λ b. Some (b, 3)) (two_is a b is.0 next.0 ∙ value)) in
        rw text (3, reads_octal a (b ∷ rest) (byte, 3) is.0 first, refl)
    go (a ∷ b ∷ c ∷ []) e =
        let all : AllDigits 8 (a ∷ b ∷ c ∷ []) = subst (AllDigits 8) e h.numeral.1 in
        let is = octal_from a all.0 in
        let next = octal_from b all.1.0 in
        let last = octal_from c all.1.1.0 in
        let value : (digit_value a * 8 + digit_value b) * 8 + digit_value c ≡ byte = (let v : ((0 * 8 + digit_value a) * 8 + digit_value b) * 8 + digit_value c ≡ byte = ap (digits_value 8) (sym e) ∙ h.value in omega arith) in
        let whole : three_digits a b c ≡ byte = three_is a b c is.0 next.0 last.0 ∙ value in
        let text : z ≡ a ∷ b ∷ c ∷ rest = h.spelled ∙ ap (λ l. l ++ rest) e in
        let small : ltb (three_digits a b c) 256 ≡ true = lt-ltb (three_digits a b c) 256 (omega (arith, h.small)) in
        let first : octal_escape a (slice_index (b ∷ c ∷ rest) 0) (slice_index (b ∷ c ∷ rest) 1) ≡ Some (byte, 4) = rw (next.0, last.0, small) (ap (λ b. Some (b, 4)) whole) in
        rw text (4, reads_octal a (b ∷ c ∷ rest) (byte, 4) is.0 first, refl)
    go (a ∷ b ∷ c ∷ d ∷ ds) e = let n = ap length e in let few = h.few in absurd (omega arith)

-- ---- one byte after the backslash

peel : (c k v byte : ℕ) (other : Option ℕ) → cond (c == k) (Some v) other ≡ Some byte → ((c ≡ k) × (byte ≡ v)) ⊎ (other ≡ Some byte)
peel c k v byte other h = go (c == k) refl h
  where
    go : (b : Bool) → (c == k) ≡ b → cond b (Some v) other ≡ Some byte → ((c ≡ k) × (byte ≡ v)) ⊎ (other ≡ Some byte)
    go true e h = let same : byte ≡ v = cc in inl (eqb-true c k e, same)
    go false e h = inr h

simple_is : (c byte : ℕ) → simple_escape c ≡ Some byte → IsSimple c byte
unfolding simple_escape
simple_is c byte h = ⊎_elim (λ p. inr (p.0 ∙ sym p.1, inl p.0)) (λ h1.
    ⊎_elim (λ p. inr (p.0 ∙ sym p.1, inr (inl p.0))) (λ h2.
    ⊎_elim (λ p. inr (p.0 ∙ sym p.1, inr (inr p.0))) (λ h3.
    ⊎_elim (λ p. inl (0, omega arith, p.0, p.1)) (λ h4.
    ⊎_elim (λ p. inl (1, omega arith, p.0, p.1)) (λ h5.
    ⊎_elim (λ p. inl (5, omega arith, p.0, p.1)) (λ h6.
    ⊎_elim (λ p. inl (3, omega arith, p.0, p.1)) (λ h7.
    ⊎_elim (λ p. inl (6, omega arith, p.0, p.1)) (λ h8.
    ⊎_elim (λ p. inl (2, omega arith, p.0, p.1)) (λ h9.
    ⊎_elim (λ p. inl (4, omega arith, p.0, p.1)) (λ h10. absurd cc)
    (peel c 118 11 byte _ h9)) (peel c 116 9 byte _ h8)) (peel c 114 13 byte _ h7)) (peel c 110 10 byte _ h6)) (peel c 102 12 byte _ h5)) (peel c 98 8 byte _ h4)) (peel c 97 7 byte _ h3)) (peel c 92 92 byte _ h2)) (peel c 47 47 byte _ h1)) (peel c 34 34 byte _ h)

simple_read : (c byte : ℕ) → IsSimple c byte → (simple_escape c ≡ Some byte) × (is_octal c ≡ false)
unfolding simple_escape
simple_read c byte (inl h) = go h.0 h.1 h.2 h.3
  where
    go : (i : ℕ) → i < 7 → c ≡ slice_index (codes "abtnvfr") i → byte ≡ 7 + i → (simple_escape c ≡ Some byte) × (is_octal c ≡ false)
    go zero l e f = rw (e, f) (refl, refl)
    go (suc zero) l e f = rw (e, f) (refl, refl)
    go (suc (suc zero)) l e f = rw (e, f) (refl, refl)
    go (suc (suc (suc zero))) l e f = rw (e, f) (refl, refl)
    go (suc (suc (suc (suc zero)))) l e f = rw (e, f) (refl, refl)
    go (suc (suc (suc (suc (suc zero))))) l e f = rw (e, f) (refl, refl)
    go (suc (suc (suc (suc (suc (suc zero)))))) l e f = rw (e, f) (refl, refl)
    go (suc (suc (suc (suc (suc (suc (suc i))))))) l e f = absurd (omega arith)
simple_read c byte (inr (e, inl k)) = rw (← e) (rw k (refl, refl))
simple_read c byte (inr (e, inr (inl k))) = rw (← e) (rw k (refl, refl))
simple_read c byte (inr (e, inr (inr k))) = rw (← e) (rw k (refl, refl))

simple_there : (z : Text) (byte n : ℕ) → by_two (simple_escape (slice_index z 0)) ≡ Some (byte, n) → (c : ℕ) × (92 ∷ z ≡ 92 ∷ c ∷ drop n (92 ∷ z)) × IsSimple c byte
unfolding simple_escape
simple_there [] byte n h = absurd cc
simple_there (c ∷ z) byte n h = go (simple_escape c) refl h
  where
    go : (o : Option ℕ) → simple_escape c ≡ o → by_two o ≡ Some (byte, n) → (k : ℕ) × (92 ∷ c ∷ z ≡ 92 ∷ k ∷ drop n (92 ∷ c ∷ z)) × IsSimple k byte
    go None e h = absurd cc
    go (Some b) e h = pair_of (λ byte rest. (k : ℕ) × (92 ∷ c ∷ z ≡ 92 ∷ k ∷ rest) × IsSimple k byte) (92 ∷ c ∷ z) (b, 2) byte n h (c, refl, simple_is c b e)

-- ---- the next byte

differ : (c k : ℕ) → c ≢ k → (c == k) ≡ false
differ c k n = elim (eqb_tells c k) [ inl y ↦ absurd (n y.1) | inr f ↦ f.0 ]

neither : (b : ℕ) → (b == 34 || b == 10) ≡ false → (b ≢ 34) × (b ≢ 10)
neither b h = (λ e. absurd (let y = ap (λ v. v || b == 10) (eq-eqb b 34 e) in let no = sym y ∙ h in cc), λ e. absurd (let y = eq-eqb b 10 e in go (b == 34) (ap (λ v. b == 34 || v) (sym y) ∙ h)))
  where
    go : (v : Bool) → (v || true) ≡ false → ⊥
    go true h = absurd cc
    go false h = absurd cc

string_there : (text : Text) (byte n : ℕ) → string_byte text ≡ Some (byte, n) → WritesByte text byte (drop n text) × IsInside text
unfolding string_byte
string_there [] byte n h = absurd cc
string_there (b ∷ z) byte n h = go (b == 34 || b == 10) refl h
  where
    after : (v : Bool) → is_octal (slice_index z 0) ≡ v → b ≡ 92 → cond {A = Option (ℕ × ℕ)} v (octal_escape (slice_index z 0) (slice_index z 1) (slice_index z 2)) (by_two (simple_escape (slice_index z 0))) ≡ Some (byte, n) → WritesByte (b ∷ z) byte (drop n (b ∷ z))
    after true is e h = rw e (inr (inr (z, refl, octal_there z byte n is h)))
    after false is e h = rw e (inr (inl (simple_there z byte n h)))

    plain : (v : Bool) → (b == 92) ≡ v → cond {A = Option (ℕ × ℕ)} v (cond {A = Option (ℕ × ℕ)} (is_octal (slice_index z 0)) (octal_escape (slice_index z 0) (slice_index z 1) (slice_index z 2)) (by_two (simple_escape (slice_index z 0)))) (Some (b, 1)) ≡ Some (byte, n) → WritesByte (b ∷ z) byte (drop n (b ∷ z))
    plain true e h = after (is_octal (slice_index z 0)) refl (eqb-true b 92 e) h
    plain false e h = pair_of (WritesByte (b ∷ z)) (b ∷ z) (b, 1) byte n h (inl (refl, λ is. absurd (let y = eq-eqb b 92 is in let no = sym y ∙ e in cc)))

    go : (v : Bool) → (b == 34 || b == 10) ≡ v → cond {A = Option (ℕ × ℕ)} v None (cond {A = Option (ℕ × ℕ)} (b == 92) (cond {A = Option (ℕ × ℕ)} (is_octal (slice_index z 0)) (octal_escape (slice_index z 0) (slice_index z 1) (slice_index z 2)) (by_two (simple_escape (slice_index z 0)))) (Some (b, 1))) ≡ Some (byte, n)
        → WritesByte (b ∷ z) byte (drop n (b ∷ z)) × IsInside (b ∷ z)
    go true e h = absurd cc
    go false e h = (plain (b == 92) refl h, λ c y same. let first : b ≡ c = cc in let n = neither b e in (λ k. n.0 (first ∙ k), λ k. n.1 (first ∙ k)))

reads_simple : (c : ℕ) (rest : Text) (byte : ℕ) → is_octal c ≡ false → simple_escape c ≡ Some byte → string_byte (92 ∷ c ∷ rest) ≡ Some (byte, 2)
unfolding string_byte
reads_simple c rest byte h e = rw h (ap by_two e)

reads_plain : (b : ℕ) (rest : Text) → b ≢ 34 → b ≢ 10 → b ≢ 92 → string_byte (b ∷ rest) ≡ Some (b, 1)
unfolding string_byte
reads_plain b rest h k l = rw (differ b 34 h, differ b 10 k, differ b 92 l) refl

string_back : (text : Text) (byte : ℕ) (rest : Text) → WritesByte text byte rest → IsInside text → Reads text byte rest
string_back text byte rest (inl h) inside = let n = inside byte rest h.0 in rw h.0 (1, reads_plain byte rest n.0 n.1 h.1, refl)
string_back text byte rest (inr (inl h)) inside = let s = simple_read h.0 byte h.2 in rw h.1 (2, reads_simple h.0 rest byte s.1 s.0, refl)
string_back text byte rest (inr (inr h)) inside = rw h.1 (octal_back h.0 rest byte h.2)

pub string_law : (text : Text) → StringLaw text
string_law text = record { read = string_there text; written = string_back text }

-- ---- values

shorter : (text : Text) (byte : ℕ) (rest : Text) → WritesByte text byte rest → length rest < length text
shorter text byte rest (inl h) = let n = ap length h.0 in omega arith
shorter text byte rest (inr (inl h)) = let n = ap length h.1 in omega arith
shorter text byte rest (inr (inr h)) =
    let n = ap length h.1 in
    let o = h.2 in
    let m = ap length o.spelled in
    omega (arith, m, length-append o.digits rest)

some_bytes : (text : Text) (byte n : ℕ) → WritesByte text byte (drop n text) → 1 ≤ n
some_bytes text byte zero h = let l = shorter text byte text h in absurd (omega arith)
some_bytes text byte (suc n) h = omega arith

-- a quote or a newline is no backslash
no_backslash : (b : ℕ) → (b == 34 || b == 10) ≡ true → b ≢ 92
no_backslash b e is = let same : (92 == 34 || 92 == 10) ≡ true = ap (λ c. c == 34 || c == 10) (sym is) ∙ e in absurd cc

value_writes : (text : Text) (byte n : ℕ) → value_byte text ≡ Some (byte, n) → WritesByte text byte (drop n text)
unfolding value_byte
value_writes [] byte n h = absurd cc
value_writes (b ∷ z) byte n h = go (b == 34 || b == 10) refl h
  where
    go : (v : Bool) → (b == 34 || b == 10) ≡ v → cond {A = Option (ℕ × ℕ)} v (Some (b, 1)) (string_byte (b ∷ z)) ≡ Some (byte, n) → WritesByte (b ∷ z) byte (drop n (b ∷ z))
    go true e h = pair_of (WritesByte (b ∷ z)) (b ∷ z) (b, 1) byte n h (inl (refl, no_backslash b e))
    go false e h = (string_there (b ∷ z) byte n h).0

abbrev ValueReads : Text → ℕ → Text → Type 0
ValueReads text byte rest = (n : ℕ) × (value_byte text ≡ Some (byte, n)) × (drop n text ≡ rest)

value_back : (text : Text) (byte : ℕ) (rest : Text) → WritesByte text byte rest → ValueReads text byte rest
unfolding value_byte
value_back [] byte rest h = let l = shorter [] byte rest h in absurd (omega arith)
value_back (b ∷ z) byte rest h = go (b == 34 || b == 10) refl h
  where
    itself : (b == 34 || b == 10) ≡ true → WritesByte (b ∷ z) byte rest → (b ≡ byte) × (z ≡ rest)
    itself e (inl h) = (cc, cc)
    itself e (inr (inl h)) = let same : b ≡ 92 = cc in absurd (no_backslash b e same)
    itself e (inr (inr h)) = let same : b ≡ 92 = cc in absurd (no_backslash b e same)

    go : (v : Bool) → (b == 34 || b == 10) ≡ v → WritesByte (b ∷ z) byte rest → (n : ℕ) × (cond {A = Option (ℕ × ℕ)} v (Some (b, 1)) (string_byte (b ∷ z)) ≡ Some (byte, n)) × (drop n (b ∷ z) ≡ rest)
    go true e h = let i = itself e h in (1, ap (λ x. Some (x, 1)) i.0, i.1)
    go false e h = string_back (b ∷ z) byte rest h (λ c y same. let first : b ≡ c = cc in let n = neither b e in (λ k. n.0 (first ∙ k), λ k. n.1 (first ∙ k)))

-- what a value that is not empty stands for
record First (text bytes : Text) : Type 0 where
  byte : ℕ
  rest : Text
  later : Text
  is : bytes ≡ byte ∷ later
  writes : WritesByte text byte rest
  stands : value_text rest ≡ Some later

first_of : (b : ℕ) (z bytes : Text) → value_text (b ∷ z) ≡ Some bytes → First (b ∷ z) bytes
first_of b z bytes h = go (value_byte (b ∷ z)) refl
  where
    after : (byte n : ℕ) → value_byte (b ∷ z) ≡ Some (byte, n) → WritesByte (b ∷ z) byte (drop n (b ∷ z)) → (o : Option Text) → value_text (drop n (b ∷ z)) ≡ o → option_map (λ y. byte ∷ y) o ≡ Some bytes → First (b ∷ z) bytes
    after byte n e w None is same = absurd cc
    after byte n e w (Some later) is same = record { byte = byte; rest = drop n (b ∷ z); later = later; is = sym (some_inj (byte ∷ later) bytes same); writes = w; stands = is }

    go : (o : Option (ℕ × ℕ)) → value_byte (b ∷ z) ≡ o → First (b ∷ z) bytes
    go None e = let none : value_text (b ∷ z) ≡ None = ap (before_rest (λ n. value_from n z)) e in absurd (let no = sym none ∙ h in cc)
    go (Some p) e =
        let w = value_writes (b ∷ z) p.0 p.1 e in
        let next = next_byte (b ∷ z) p.0 p.1 e (some_bytes (b ∷ z) p.0 p.1 w) in
        after p.0 p.1 e w (value_text (drop p.1 (b ∷ z))) refl (sym next ∙ h)

value_is : (bytes text : Text) → value_text text ≡ Some bytes → WritesAll text bytes
value_is [] [] h = refl
value_is [] (b ∷ z) h = let f = first_of b z [] h in absurd (let no = f.is in cc)
value_is (x ∷ bytes) [] h = absurd (let no = some_inj [] (x ∷ bytes) h in cc)
value_is (x ∷ bytes) (b ∷ z) h =
    let f = first_of b z (x ∷ bytes) h in
    let same = f.is in
    let head : f.byte ≡ x = cc in
    let tail : f.later ≡ bytes = cc in
    (f.rest, subst (λ c. WritesByte (b ∷ z) c f.rest) head f.writes, value_is bytes f.rest (f.stands ∙ ap Some tail))

value_read : (bytes text : Text) → WritesAll text bytes → value_text text ≡ Some bytes
value_read [] text h = ap value_text h
value_read (x ∷ bytes) text h =
    let v = value_back text x h.0 h.1 in
    let some : 1 ≤ v.0 = some_bytes text x v.0 (subst (WritesByte text x) (sym v.2) h.1) in
    next_byte text x v.0 v.1 some ∙ ap (option_map (λ y. x ∷ y)) (ap value_text v.2 ∙ value_read bytes h.0 h.2)

pub value_law : (text : Text) → ValueLaw text
value_law text bytes = (value_is bytes text, value_read bytes text)
