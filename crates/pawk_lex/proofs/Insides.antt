-- The bytes inside strings and between slashes are found.
use Rattle.std.proofs.Common.{◌≡◌, ◌≢◌, ◌≤◌, ◌<◌, ℕ, ◌-◌, Bool, true, false, ◌||◌, ◌&&◌, cond, [], ◌∷◌, ◌++◌, length, take, drop, Option, Some, None, refl, sym, ap, ◌∙◌, arith, append_assoc}
use Rattle.std.specs.Prelude.{◌==◌, nat_lt, slice_index}
use Rattle.std.proofs.Math.Seq.{take-append_seam}
use Rattle.std.proofs.lemmas.List.{append-nil, length-append}
use Rattle.std.proofs.lemmas.Bool.{eqb-true}
use Rattle.std.proofs.lemmas.Bool.Decides.{nat_tests}
use Rattle.pawk_lex.specs.Bytes.{Text, is_octal}
use Rattle.pawk_lex.specs.Gaps.{pass}
use Rattle.pawk_lex.specs.Strings.{simple_escape, two_digits, three_digits, octal_escape, string_byte, decode, ere_length}
use Rattle.pawk_lex.specs.Cut.{is_ordinary, Inside, at_quote, itself, by_escape, one_digit, two_octal, three_octal, is_plain, IsEre, no_byte, a_byte, a_pair}
use Rattle.pawk_lex.proofs.Decoding.{decode_stops, decode_goes}
use Rattle.pawk_lex.proofs.Passing.{pass_stops, pass_goes}

-- ---- strings

third : {A : Type 0} (p q : Bool) (x y z : A) → cond p false (cond q false true) ≡ true → cond p x (cond q y z) ≡ z
third true q x y z e = absurd cc
third false true x y z e = absurd cc
third false false x y z e = refl

written_itself : (b : ℕ) (z : Text) → is_ordinary b ≡ true → string_byte (b ∷ z) ≡ Some (b, 1)
unfolding string_byte
written_itself b z e = third (b == 34 || b == 10) (b == 92) _ _ _ e

link : (e k v b : ℕ) (more : Option ℕ) → is_octal k ≡ false → (more ≡ Some b → is_octal e ≡ false) → cond (e == k) (Some v) more ≡ Some b → is_octal e ≡ false
link e k v b more h next g = go (e == k) refl g
  where
    go : (c : Bool) → (e == k) ≡ c → cond c (Some v) more ≡ Some b → is_octal e ≡ false
    go true f g' = let same : e ≡ k = eqb-true e k f in rw same h
    go false f g' = next g'

-- no octal digit is another escape
simple_not_octal : (e b : ℕ) → simple_escape e ≡ Some b → is_octal e ≡ false
unfolding simple_escape
simple_not_octal e b g =
    link e 34 34 b _ refl (link e 47 47 b _ refl (link e 92 92 b _ refl (link e 97 7 b _ refl (link e 98 8 b _ refl
    (link e 102 12 b _ refl (link e 110 10 b _ refl (link e 114 13 b _ refl (link e 116 9 b _ refl (link e 118 11 b None refl (λ h. absurd cc)))))))))) g

written_escaped : (e b : ℕ) (z : Text) → simple_escape e ≡ Some b → string_byte (92 ∷ e ∷ z) ≡ Some (b, 2)
unfolding string_byte
written_escaped e b z h = rw (simple_not_octal e b h, h) refl

written_one : (a : ℕ) (z : Text) → is_octal a ≡ true → is_octal (slice_index z 0) ≡ false → string_byte (92 ∷ a ∷ z) ≡ Some (a - 48, 2)
unfolding string_byte octal_escape
written_one a z h f = rw (h, f) refl

second_of : (p q : Bool) (x y : Option (ℕ × ℕ)) → (p ≡ true → q ≡ false) → cond (p && q) x y ≡ y
second_of true true x y h = let e : true ≡ false = h refl in absurd cc
second_of true false x y h = refl
second_of false q x y h = refl

not_below : (n m : ℕ) → m ≤ n → nat_lt n m ≡ false
not_below n m h = grind (arith, nat_tests)

below : (n m : ℕ) → n < m → nat_lt n m ≡ true
below n m h = grind (arith, nat_tests)

written_two : (a b : ℕ) (z : Text) → is_octal a ≡ true → is_octal b ≡ true → (is_octal (slice_index z 0) ≡ true → 256 ≤ three_digits a b (slice_index z 0)) → string_byte (92 ∷ a ∷ b ∷ z) ≡ Some (two_digits a b, 3)
unfolding string_byte octal_escape
written_two a b z h k f =
    rw (h, k) (second_of (is_octal (slice_index z 0)) (nat_lt (three_digits a b (slice_index z 0)) 256) _ _ (λ e. not_below (three_digits a b (slice_index z 0)) 256 (f e)))

written_three : (a b c : ℕ) (z : Text) → is_octal a ≡ true → is_octal b ≡ true → is_octal c ≡ true → three_digits a b c < 256 → string_byte (92 ∷ a ∷ b ∷ c ∷ z) ≡ Some (three_digits a b c, 4)
unfolding string_byte octal_escape
written_three a b c z h k l f = rw (h, k, l, below (three_digits a b c) 256 f) refl

-- one byte more
onward : (front bytes rest z y : Text) (b n : ℕ) → string_byte z ≡ Some (b, n) → 1 ≤ n → drop n z ≡ y → decode 0 (front ++ b ∷ []) y ≡ ((front ++ b ∷ []) ++ bytes, 34 ∷ rest) → decode 0 front z ≡ (front ++ b ∷ bytes, 34 ∷ rest)
onward front bytes rest z y b n w some e h =
    decode_goes front z b n w some ∙ ap (λ v. decode 0 (front ++ b ∷ []) v) e ∙ h ∙ ap (λ v. (v, 34 ∷ rest)) (append_assoc front (b ∷ []) bytes)

stops_at_quote : (rest : Text) → string_byte (34 ∷ rest) ≡ None
unfolding string_byte
stops_at_quote rest = refl

pub decode_inside : {y bytes rest : Text} → Inside y bytes rest → (front : Text) → decode 0 front y ≡ (front ++ bytes, 34 ∷ rest)
decode_inside (at_quote {rest}) front = decode_stops front (34 ∷ rest) (stops_at_quote rest) ∙ ap (λ v. (v, 34 ∷ rest)) (sym (append-nil front))
decode_inside (itself {b} {z} {bytes} {rest} h i) front = onward front bytes rest (b ∷ z) z b 1 (written_itself b z h) (omega arith) refl (decode_inside i (front ++ b ∷ []))
decode_inside (by_escape {e} {b} {z} {bytes} {rest} h i) front = onward front bytes rest (92 ∷ e ∷ z) z b 2 (written_escaped e b z h) (omega arith) refl (decode_inside i (front ++ b ∷ []))
decode_inside (one_digit {a} {z} {bytes} {rest} h f i) front = onward front bytes rest (92 ∷ a ∷ z) z (a - 48) 2 (written_one a z h f) (omega arith) refl (decode_inside i (front ++ (a - 48) ∷ []))
decode_inside (two_octal {a} {b} {z} {bytes} {rest} h k f i) front = onward front bytes rest (92 ∷ a ∷ b ∷ z) z (two_digits a b) 3 (written_two a b z h k f) (omega arith) refl (decode_inside i (front ++ two_digits a b ∷ []))
decode_inside (three_octal {a} {b} {c} {z} {bytes} {rest} h k l f i) front = onward front bytes rest (92 ∷ a ∷ b ∷ c ∷ z) z (three_digits a b c) 4 (written_three a b c z h k l f) (omega arith) refl (decode_inside i (front ++ three_digits a b c ∷ []))

pub inside_first : {y bytes r : Text} → Inside y bytes r → (rest : Text) → slice_index (y ++ rest) 0 ≡ slice_index y 0
inside_first at_quote rest = refl
inside_first (itself h i) rest = refl
inside_first (by_escape h i) rest = refl
inside_first (one_digit h f i) rest = refl
inside_first (two_octal h k f i) rest = refl
inside_first (three_octal h k l f i) rest = refl

-- the same where more follows the quote
pub inside_more : {y bytes r : Text} → Inside y bytes r → (rest : Text) → Inside (y ++ rest) bytes (r ++ rest)
inside_more at_quote rest = at_quote
inside_more (itself h i) rest = itself h (inside_more i rest)
inside_more (by_escape h i) rest = by_escape h (inside_more i rest)
inside_more (one_digit h f i) rest = one_digit h (rw (inside_first i rest) f) (inside_more i rest)
inside_more (two_octal h k f i) rest = two_octal h k (rw (inside_first i rest) f) (inside_more i rest)
inside_more (three_octal h k l f i) rest = three_octal h k l f (inside_more i rest)

-- ---- expressions

pass_by : (lead : Text → ℕ) (n : ℕ) (z : Text) → lead z ≡ n → n ≢ 0 → pass lead 0 z ≡ pass lead 0 (drop n z)
pass_by lead n z e some = let goes : lead z ≢ 0 = λ f. some (sym e ∙ f) in pass_goes lead z goes ∙ ap (λ k. pass lead 0 (drop k z)) e

plain_length : (b : ℕ) (z : Text) → is_plain b ≡ true → ere_length (b ∷ z) ≡ 1
unfolding ere_length
plain_length b z e = third (b == 47 || b == 10) (b == 92) _ _ _ e

pair_length : (c : ℕ) (z : Text) → (c == 10) ≡ false → ere_length (92 ∷ c ∷ z) ≡ 2
unfolding ere_length
pair_length c z e = rw e refl

slash_length : (rest : Text) → ere_length (47 ∷ rest) ≡ 0
unfolding ere_length
slash_length rest = refl

pub pass_ere : {bytes : Text} → IsEre bytes → (rest : Text) → pass ere_length 0 (bytes ++ 47 ∷ rest) ≡ 47 ∷ rest
pass_ere no_byte rest = pass_stops ere_length (47 ∷ rest) (slash_length rest)
pass_ere (a_byte {b} {z} h i) rest = pass_by ere_length 1 (b ∷ z ++ 47 ∷ rest) (plain_length b (z ++ 47 ∷ rest) h) (λ e. cc) ∙ pass_ere i rest
pass_ere (a_pair {c} {z} h i) rest = pass_by ere_length 2 (92 ∷ c ∷ z ++ 47 ∷ rest) (pair_length c (z ++ 47 ∷ rest) h) (λ e. cc) ∙ pass_ere i rest

pub taken : (bytes rest : Text) → take (length (bytes ++ 47 ∷ rest) - length (47 ∷ rest)) (bytes ++ 47 ∷ rest) ≡ bytes
taken bytes rest =
    let e : length (bytes ++ 47 ∷ rest) - length (47 ∷ rest) ≡ length bytes = simp length-append (omega arith) in
    rw e (take-append_seam bytes (47 ∷ rest))
