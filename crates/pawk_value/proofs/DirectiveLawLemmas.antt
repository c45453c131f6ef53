-- What a directive writes reads back as the number, and fills the width.
use Rattle.std.proofs.Common.{◌≡◌, ◌⊎◌, inl, inr, ⊎_elim, ℕ, ℤ, pos, negsuc, zero, suc, ◌+◌, ◌-◌, ◌*◌, ◌<◌, ◌≤◌, ◌^◌, Bool, true, false, not, cond, eqb, ltb, ◌&&◌, ◌||◌, is_some, All, get_or, min, List, [], ◌∷◌, ◌++◌, length, take, map, Option, Some, None, IfSome, Result, Ok, Err, refl, ap, sym, subst, ◌∙◌, arith, length-append}
use Rattle.std.proofs.lemmas.Bool.{and_parts, ltb-true, cases_lt, agree_below_at}
use Rattle.std.proofs.lemmas.Bool.Decides.{nat_tests, eqb_tells}
use Rattle.std.proofs.lemmas.List.Elements.{All-append, All-nil, All-cons, All-replicate}
use Rattle.std.proofs.lemmas.List.{length-replicate, take_all}
use Rattle.std.proofs.Math.Seq.{take-length}
use Rattle.std.specs.Char.{digit_value}
use Rattle.std.specs.Str.Parse.{AllDigits, digits_value}
use Rattle.std.proofs.lemmas.Str.Parse.{numerals_by_value, tells_digits}
use Rattle.std.specs.Int.Digits.{digits_of, number_from_digits, AllBelowBase}
use Rattle.std.proofs.lemmas.Int.Digits.{digits_value_is, number_digits_of, all_below_base_digits_of, first_digits_of}
use Rattle.std.proofs.lemmas.Fmt.{decimal_is_IsNumeral, decimal-digits_of, decimal-digits_value}
use Rattle.std.specs.Fmt.{decimal}
use Rattle.std.specs.Int.RustNames.{unsigned_abs}
use Rattle.pawk_value.specs.declared.faults.Fault.{Fault}
use Rattle.pawk_value.specs.declared.faults.Fault.TheVariants.{Format, Negative}
use Rattle.pawk_value.specs.Numeral.{begins}
use Rattle.pawk_value.specs.Value.{Val, Uninit, Num, Text, Maybe}
use Rattle.pawk_value.specs.Look.{looks}
use Rattle.pawk_value.specs.Conversion.{num_of, text_of}
use Rattle.pawk_value.specs.declared.directive.Conversion.{Conversion}
use Rattle.pawk_value.specs.declared.directive.Conversion.TheVariants as kind
use Rattle.pawk_value.specs.declared.directive.Flags.{Flags}
use Rattle.pawk_value.specs.declared.directive.Directive.{Directive}
use Rattle.pawk_value.specs.Format.{contains, byte_of, hexadecimal_prefix, zeros, in_width, zero_count, fills_zeros, number_text, own_digits, sign_text, signed_text, digit_byte, radix_text, conversion_digits, is_octal, has_leading_zero, with_zero, unsigned_digits, unsigned_prefix, unsigned_text, beginning, string_text, character, and_then, signed_result, unsigned_result, character_result, text_by}
use Rattle.pawk_value.specs.DirectiveLaw.{InWidth, base_of, alphabet, PadsWithZeros, IsMarked, IsWanted, WritesNumber, IsSign, IsPrefix, IsCode, IsByte, WritesText, WritesBy, HasNoByte, NoByte, FailsBy, DirectiveLaw, DirectiveFaults, with_flag_zero, ZeroIsIdle}
use Rattle.pawk_value.proofs.CapLemmas.{spaces_length}

in_width_is : (d : Directive) (body : List ℕ) → InWidth d body (in_width d body)
in_width_is d body = record {
  count = d.width - length body;
  sides = refl;
  wide = omega (arith, spaces_length d.flags.left d.width body);
  tight = λ h. omega (arith, spaces_length d.flags.left d.width body);
}

-- ---- digits read back

zero_in_front : (b : ℕ) (ds : List ℕ) → digits_value b (48 ∷ ds) ≡ digits_value b ds
zero_in_front b ds = let none : 0 * b + 0 ≡ 0 = omega arith in rw none refl

zeros_in_front : (b k : ℕ) (ds : List ℕ) → digits_value b (zeros k ++ ds) ≡ digits_value b ds
zeros_in_front b zero ds = refl
zeros_in_front b (suc k) ds =
    let step : zeros (suc k) ≡ 48 ∷ zeros k = refl in
    ap (λ l. digits_value b (l ++ ds)) step ∙ zero_in_front b (zeros k ++ ds) ∙ zeros_in_front b k ds

digit_back : (upper : Bool) (k : ℕ) → k < 16 → digit_value (digit_byte upper k) ≡ k
digit_back true k h = grind (arith, nat_tests)
digit_back false k h = grind (arith, nat_tests)

digits_back : (upper : Bool) (b : ℕ) (ds : List ℕ) → b ≤ 16 → AllBelowBase b ds → map digit_value (map (digit_byte upper) ds) ≡ ds
digits_back upper b [] h a = refl
digits_back upper b (d ∷ ds) h a = rw (digit_back upper d (omega (arith, a.0))) (ap (λ l. d ∷ l) (digits_back upper b ds h a.1))

radix_back : (b : ℕ) (upper : Bool) (n : ℕ) → 2 ≤ b → b ≤ 16 → digits_value b (radix_text b upper n) ≡ n
radix_back b upper n l h =
    elim (eqb_tells n 0) [
      | inl y ↦ rw (y.0, y.1) (zero_in_front b [])
      | inr f ↦ rw f.0 (digits_value_is b (map (digit_byte upper) (digits_of b n)) ∙ ap (number_from_digits b) (digits_back upper b (digits_of b n) h (all_below_base_digits_of b n l)) ∙ number_digits_of b n l)
    ]

decimal_back : (n : ℕ) → n < 2 ^ 64 → digits_value 10 (decimal n) ≡ n
decimal_back n h = (decimal_is_IsNumeral n h).1

own_back : (d : Directive) (b n : ℕ) (ds : List ℕ) → digits_value b ds ≡ n → digits_value b (own_digits d n ds) ≡ n
own_back d b n ds h =
    elim (eqb_tells n 0) [
      | inl y ↦ elim (is_some d.precision) as (λ v. digits_value b (cond ((eqb n 0) && v) [] ds) ≡ n) [ true ↦ rw (y.0, y.1) refl | false ↦ rw y.0 h ]
      | inr f ↦ rw f.0 h
    ]

with_zero_back : (b : ℕ) (ds : List ℕ) → digits_value b (with_zero ds) ≡ digits_value b ds
with_zero_back b ds = elim (begins (λ x. eqb x 48) ds) as (λ v. digits_value b (cond v ds (48 ∷ ds)) ≡ digits_value b ds) [ true ↦ refl | false ↦ zero_in_front b ds ]

leading_back : (d : Directive) (b : ℕ) (ds : List ℕ) → digits_value b (cond (has_leading_zero d) (with_zero ds) ds) ≡ digits_value b ds
leading_back d b ds = elim (has_leading_zero d) as (λ v. digits_value b (cond v (with_zero ds) ds) ≡ digits_value b ds) [ true ↦ with_zero_back b ds | false ↦ refl ]

unsigned_back : (d : Directive) (n : ℕ) → digits_value (base_of d.conversion) (conversion_digits d.conversion n) ≡ n → digits_value (base_of d.conversion) (unsigned_digits d n) ≡ n
unsigned_back d n h =
    leading_back d (base_of d.conversion) (own_digits d n (conversion_digits d.conversion n)) ∙ own_back d (base_of d.conversion) n (conversion_digits d.conversion n) h

-- ---- the digits of a number

abbrev In : Conversion → List ℕ → Type 0
In k ds = All (λ b. contains (alphabet k) b ≡ true) ds

-- digits of a number with no 0 in front, but for the number 0
record IsOwn (k : Conversion) (n : ℕ) (ds : List ℕ) : Type 0 where
  inside : In k ds
  some : 0 < length ds
  front : (rest : List ℕ) → ds ≡ 48 ∷ rest → (n ≡ 0) × (rest ≡ [])

abbrev upper_of : Conversion → Bool
upper_of kind.UpperHexadecimal = true
upper_of _ = false

digit_in : (k : Conversion) (x : ℕ) → x < base_of k → contains (alphabet k) (digit_byte (upper_of k) x) ≡ true
digit_in kind.Octal x h = agree_below_at (λ x. contains (alphabet kind.Octal) (digit_byte false x)) (λ x. true) 8 x refl h
digit_in kind.Hexadecimal x h = agree_below_at (λ x. contains (alphabet kind.Hexadecimal) (digit_byte false x)) (λ x. true) 16 x refl h
digit_in kind.UpperHexadecimal x h = agree_below_at (λ x. contains (alphabet kind.UpperHexadecimal) (digit_byte true x)) (λ x. true) 16 x refl h
digit_in kind.Signed x h = agree_below_at (λ x. contains (alphabet kind.Signed) (digit_byte false x)) (λ x. true) 10 x refl h
digit_in kind.Unsigned x h = agree_below_at (λ x. contains (alphabet kind.Unsigned) (digit_byte false x)) (λ x. true) 10 x refl h
digit_in kind.Text x h = agree_below_at (λ x. contains (alphabet kind.Text) (digit_byte false x)) (λ x. true) 10 x refl h
digit_in kind.Byte x h = agree_below_at (λ x. contains (alphabet kind.Byte) (digit_byte false x)) (λ x. true) 10 x refl h

zero_in : (k : Conversion) → contains (alphabet k) 48 ≡ true
zero_in kind.Octal = refl
zero_in kind.Hexadecimal = refl
zero_in kind.UpperHexadecimal = refl
zero_in kind.Signed = refl
zero_in kind.Unsigned = refl
zero_in kind.Text = refl
zero_in kind.Byte = refl

base_is : (k : Conversion) → (2 ≤ base_of k) × (base_of k ≤ 16)
base_is kind.Octal = (omega arith, omega arith)
base_is kind.Hexadecimal = (omega arith, omega arith)
base_is kind.UpperHexadecimal = (omega arith, omega arith)
base_is kind.Signed = (omega arith, omega arith)
base_is kind.Unsigned = (omega arith, omega arith)
base_is kind.Text = (omega arith, omega arith)
base_is kind.Byte = (omega arith, omega arith)

none_in : (k : Conversion) → In k []
none_in k = All-nil (λ b. contains (alphabet k) b ≡ true)

more_in : (k : Conversion) (b : ℕ) (ds : List ℕ) → contains (alphabet k) b ≡ true → In k ds → In k (b ∷ ds)
more_in k b ds h a = All-cons (λ b. contains (alphabet k) b ≡ true) b ds h a

digits_in : (k : Conversion) (ds : List ℕ) → AllBelowBase (base_of k) ds → In k (map (digit_byte (upper_of k)) ds)
digits_in k [] h = none_in k
digits_in k (d ∷ ds) h = more_in k (digit_byte (upper_of k) d) (map (digit_byte (upper_of k)) ds) (digit_in k d h.0) (digits_in k ds h.1)

byte_is_some : (upper : Bool) (d : ℕ) → 0 < d → d < 16 → digit_byte upper d ≡ 48 → ⊥
byte_is_some true d h l e = grind (arith, nat_tests)
byte_is_some false d h l e = grind (arith, nat_tests)

no_zero_in_front : (upper : Bool) (b : ℕ) (ds rest : List ℕ) → b ≤ 16 → AllBelowBase b ds → 0 < get_or ds 0 0 → map (digit_byte upper) ds ≡ 48 ∷ rest → ⊥
no_zero_in_front upper b [] rest l a h e = omega arith
no_zero_in_front upper b (d ∷ ds) rest l a h e = let first : digit_byte upper d ≡ 48 = cc in byte_is_some upper d h (omega (arith, a.0)) first

length_some : (ds : List ℕ) → 0 < get_or ds 0 0 → 0 < length ds
length_some [] h = omega arith
length_some (d ∷ ds) h = omega arith

length_digits : (upper : Bool) (ds : List ℕ) → length (map (digit_byte upper) ds) ≡ length ds
length_digits upper [] = refl
length_digits upper (d ∷ ds) = let step = length_digits upper ds in omega (arith, step)

radix_own : (k : Conversion) (n : ℕ) → IsOwn k n (radix_text (base_of k) (upper_of k) n)
radix_own k n = elim (eqb_tells n 0) [
  | inl y ↦ rw y.0 (record { inside = more_in k 48 [] (zero_in k) (none_in k); some = omega arith; front = λ rest e. (y.1, let none : rest ≡ [] = cc in none) })
  | inr f ↦ rw f.0 (
      let b = base_is k in
      let below = all_below_base_digits_of (base_of k) n b.0 in
      let high : 0 < get_or (digits_of (base_of k) n) 0 0 = first_digits_of (base_of k) n b.0 (omega (arith, f.1)) in
      record {
        inside = digits_in k (digits_of (base_of k) n) below;
        some = omega (arith, length_digits (upper_of k) (digits_of (base_of k) n), length_some (digits_of (base_of k) n) high);
        front = λ rest e. absurd (no_zero_in_front (upper_of k) (base_of k) (digits_of (base_of k) n) rest b.1 below high e);
      })
]

decimal_digit : (d : ℕ) → d < 10 → 48 + d ≡ digit_byte false d
decimal_digit d h = grind (arith, nat_tests)

decimal_map : (ds : List ℕ) → AllBelowBase 10 ds → map (λ d. 48 + d) ds ≡ map (digit_byte false) ds
decimal_map [] h = refl
decimal_map (d ∷ ds) h = ap (λ x. x ∷ map (λ d. 48 + d) ds) (decimal_digit d h.0) ∙ ap (λ l. digit_byte false d ∷ l) (decimal_map ds h.1)

decimal_is : (n : ℕ) → n < 2 ^ 64 → decimal n ≡ radix_text 10 false n
decimal_is n l = elim (eqb_tells n 0) [
  | inl y ↦ rw y.1 (decimal-digits_value (numerals_by_value (AllDigits 10) tells_digits) (48 ∷ []) (omega arith, tt) (omega arith) (λ e. refl) (omega arith))
  | inr f ↦ rw f.0 (decimal-digits_of n (omega (arith, f.1)) l ∙ decimal_map (digits_of 10 n) (all_below_base_digits_of 10 n (omega arith)))
]

own_of : (k : Conversion) (n : ℕ) → n < 2 ^ 64 → IsOwn k n (conversion_digits k n)
own_of kind.Octal n l = radix_own kind.Octal n
own_of kind.Hexadecimal n l = radix_own kind.Hexadecimal n
own_of kind.UpperHexadecimal n l = radix_own kind.UpperHexadecimal n
own_of kind.Signed n l = subst (IsOwn kind.Signed n) (sym (decimal_is n l)) (radix_own kind.Signed n)
own_of kind.Unsigned n l = subst (IsOwn kind.Unsigned n) (sym (decimal_is n l)) (radix_own kind.Unsigned n)
own_of kind.Text n l = subst (IsOwn kind.Text n) (sym (decimal_is n l)) (radix_own kind.Text n)
own_of kind.Byte n l = subst (IsOwn kind.Byte n) (sym (decimal_is n l)) (radix_own kind.Byte n)

-- the same without digits for the number 0 with a precision
record IsStripped (k : Conversion) (p : Option ℕ) (n : ℕ) (ds : List ℕ) : Type 0 where
  inside : In k ds
  some : p ≡ None → 0 < length ds
  front : (rest : List ℕ) → ds ≡ 48 ∷ rest → (n ≡ 0) × (p ≡ None) × (rest ≡ [])

strip : (k : Conversion) (p : Option ℕ) (n : ℕ) (zero : Bool) (ds : List ℕ) → (n ≡ 0 → zero ≡ true) → IsOwn k n ds → IsStripped k p n (cond (zero && is_some p) [] ds)
strip k None n true ds t own = record { inside = own.inside; some = λ e. own.some; front = λ rest e. ((own.front rest e).0, refl, (own.front rest e).1) }
strip k None n false ds t own = record { inside = own.inside; some = λ e. own.some; front = λ rest e. ((own.front rest e).0, refl, (own.front rest e).1) }
strip k (Some p) n true ds t own = record { inside = none_in k; some = λ e. absurd cc; front = λ rest e. absurd cc }
strip k (Some p) n false ds t own = record { inside = own.inside; some = λ e. own.some; front = λ rest e. absurd (let x = t (own.front rest e).0 in cc) }

-- the same with the 0 that `#` puts in front
record IsFinal (d : Directive) (n : ℕ) (ds : List ℕ) : Type 0 where
  inside : In d.conversion ds
  some : d.precision ≡ None → 0 < length ds
  marked : IsMarked d → (rest : List ℕ) × (ds ≡ 48 ∷ rest)
  front : (rest : List ℕ) → ds ≡ 48 ∷ rest → (IsMarked d × ((more : List ℕ) → rest ≡ 48 ∷ more → ⊥)) ⊎ ((n ≡ 0) × (d.precision ≡ None) × (rest ≡ []))

mark : (d : Directive) (n : ℕ) (ds : List ℕ) → IsMarked d → IsStripped d.conversion d.precision n ds → IsFinal d n (with_zero ds)
mark d n [] m s = record {
  inside = more_in d.conversion 48 [] (zero_in d.conversion) (none_in d.conversion);
  some = λ e. omega arith;
  marked = λ is. ([], refl);
  front = λ rest e. inl (m, λ more f. let none : rest ≡ [] = cc in cc);
}
mark d n (c ∷ cs) m s = elim (eqb_tells c 48) [
  | inl y ↦ rw y.0 (record {
    inside = s.inside;
    some = s.some;
    marked = λ is. (cs, ap (λ x. x ∷ cs) y.1);
    front = λ rest e. inr (s.front rest e);
  })
  | inr f ↦ rw f.0 (record {
    inside = more_in d.conversion 48 (c ∷ cs) (zero_in d.conversion) s.inside;
    some = λ e. omega arith;
    marked = λ is. (c ∷ cs, refl);
    front = λ rest e. inl (m, λ more g. let same : c ≡ 48 = cc in f.1 same);
  })
]

lead : (d : Directive) (n : ℕ) (ds : List ℕ) (b : Bool) → (IsMarked d → b ≡ true) → (b ≡ true → IsMarked d) → IsStripped d.conversion d.precision n ds → IsFinal d n (cond b (with_zero ds) ds)
lead d n ds true to from s = mark d n ds (from refl) s
lead d n ds false to from s = record { inside = s.inside; some = s.some; marked = λ m. absurd (let x = to m in cc); front = λ rest e. inr (s.front rest e) }

octal_is : (k : Conversion) → is_octal k ≡ true → k ≡ kind.Octal
octal_is kind.Octal e = refl
octal_is kind.Hexadecimal e = cc
octal_is kind.UpperHexadecimal e = cc
octal_is kind.Signed e = cc
octal_is kind.Unsigned e = cc
octal_is kind.Text e = cc
octal_is kind.Byte e = cc

stripped_of : (d : Directive) (n : ℕ) → n < 2 ^ 64 → IsStripped d.conversion d.precision n (own_digits d n (conversion_digits d.conversion n))
stripped_of d n l = strip d.conversion d.precision n (eqb n 0) (conversion_digits d.conversion n) (λ e. rw e refl) (own_of d.conversion n l)

final_of : (d : Directive) (n : ℕ) → n < 2 ^ 64 → IsFinal d n (unsigned_digits d n)
final_of d n l = lead d n (own_digits d n (conversion_digits d.conversion n)) (has_leading_zero d)
    (λ m. rw (m.0, m.1) refl)
    (λ e. let p = and_parts (is_octal d.conversion) d.flags.alternate e in (octal_is d.conversion p.0, p.1))
    (stripped_of d n l)

-- ---- numbers

least_digits : (p : Option ℕ) (fills : Bool) (width before : ℕ) (ds : List ℕ) → IfSome p (λ n. n ≤ length (zeros (zero_count fills p width before (length ds)) ++ ds))
least_digits None fills width before ds = tt
least_digits (Some p) fills width before ds = omega (arith, length-append (zeros (p - length ds)) ds, length-replicate {A = ℕ} (p - length ds) 48)

zeros_in : (k : Conversion) (z : ℕ) → In k (zeros z)
zeros_in k z = All-replicate (λ b. contains (alphabet k) b ≡ true) z 48 (zero_in k)

-- why there are zeros in front of the digits
abbrev Reason : Directive → ℕ → ℕ → Type 0
Reason d before count = (d.precision ≡ Some count) ⊎ (PadsWithZeros d × (before + count ≡ d.width))

padded_by : (d : Directive) (before n : ℕ) (ds rest : List ℕ) (z : ℕ) → IsFinal d n ds → (0 < z → Reason d before (z + length ds)) → zeros z ++ ds ≡ 48 ∷ rest → IsWanted d before n (zeros z ++ ds) rest
padded_by d before n ds rest zero own why e = ⊎_elim (λ m. inr (inr (inl m))) (λ m. inr (inr (inr m))) (own.front rest e)
padded_by d before n ds rest (suc z) own why e =
    let len : length (zeros (suc z) ++ ds) ≡ suc z + length ds = omega (arith, length-append (zeros (suc z)) ds, length-replicate {A = ℕ} (suc z) 48) in
    ⊎_elim (λ p. inl (p ∙ ap Some (sym len))) (λ w. inr (inl (w.0, ap (λ x. before + x) len ∙ w.1))) (why (omega arith))

flags_tell : (zero left : Bool) → (zero && not left) ≡ true → (zero ≡ true) × (left ≡ false)
flags_tell true true h = cc
flags_tell true false h = (refl, refl)
flags_tell false left h = cc

fills_by : (d : Directive) (before count : ℕ) (b : Bool) → fills_zeros d.flags ≡ b → d.precision ≡ None → 0 < cond b (d.width - (before + count)) 0 → Reason d before (cond b (d.width - (before + count)) 0 + count)
fills_by d before count true e none h = let f = flags_tell d.flags.zero d.flags.left e in inr ((none, f.0, f.1), omega arith)
fills_by d before count false e none h = absurd (omega arith)

reason_by : (d : Directive) (before count : ℕ) (p : Option ℕ) → d.precision ≡ p → 0 < zero_count (fills_zeros d.flags) p d.width before count → Reason d before (zero_count (fills_zeros d.flags) p d.width before count + count)
reason_by d before count None e h = fills_by d before count (fills_zeros d.flags) refl e h
reason_by d before count (Some p) e h = let sum : p ≡ (p - count) + count = omega arith in inl (e ∙ ap Some sum)

fill_count : (d : Directive) (before count : ℕ) → PadsWithZeros d → zero_count (fills_zeros d.flags) d.precision d.width before count ≡ d.width - (before + count)
fill_count d before count w = rw (w.0, w.1, w.2) refl

number_is : (d : Directive) (before ds : List ℕ) (n : ℕ) → IsFinal d n ds → digits_value (base_of d.conversion) ds ≡ n → WritesNumber d before n (number_text d before ds)
number_is d before ds n own h =
    let z = zero_count (fills_zeros d.flags) d.precision d.width (length before) (length ds) in
    let len : length (zeros z ++ ds) ≡ z + length ds = omega (arith, length-append (zeros z) ds, length-replicate {A = ℕ} z 48) in
    record {
      digits = zeros z ++ ds;
      padded = in_width_is d (before ++ (zeros z ++ ds));
      written = All-append (λ b. contains (alphabet d.conversion) b ≡ true) (zeros z) ds (zeros_in d.conversion z) own.inside;
      reads = zeros_in_front (base_of d.conversion) z ds ∙ h;
      many = least_digits d.precision (fills_zeros d.flags) d.width (length before) ds;
      some = λ e. omega (arith, len, own.some e);
      filled = λ w. omega (arith, len, fill_count d (length before) (length ds) w);
      marked = λ m. marked_by z (own.marked m);
      wanted = λ rest e. padded_by d (length before) n ds rest z own (reason_by d (length before) (length ds) d.precision refl) e;
    }
  where
    marked_by : (z : ℕ) → ((rest : List ℕ) × (ds ≡ 48 ∷ rest)) → (rest : List ℕ) × (zeros z ++ ds ≡ 48 ∷ rest)
    marked_by zero m = m
    marked_by (suc z) m = (zeros z ++ ds, refl)

sign_is : (f : Flags) (z : ℤ) → IsSign f z (sign_text f z)
sign_is f z = record {
  minus = λ n e. rw e refl;
  plus = λ n e p. rw (e, p) refl;
  space = λ n e p s. rw (e, p, s) refl;
  bare = λ n e p s. rw (e, p, s) refl;
}

no_prefix : (k : Conversion) → base_of k < 16 → hexadecimal_prefix k ≡ []
no_prefix kind.Octal h = refl
no_prefix kind.Hexadecimal h = absurd (omega arith)
no_prefix kind.UpperHexadecimal h = absurd (omega arith)
no_prefix kind.Signed h = refl
no_prefix kind.Unsigned h = refl
no_prefix kind.Text h = refl
no_prefix kind.Byte h = refl

either : (b : Bool) → cond {A = List ℕ} b [] [] ≡ []
either true = refl
either false = refl

above_zero : (n : ℕ) → 0 < n → eqb n 0 ≡ false
above_zero n h = elim (eqb_tells n 0) [ inl y ↦ absurd (omega (arith, y.1)) | inr f ↦ f.0 ]

off : (b : Bool) → (b && not true) ≡ false
off true = refl
off false = refl

prefix_is : (d : Directive) (n : ℕ) → IsPrefix d n (unsigned_prefix d n)
prefix_is d n = record {
  small = λ k a h. rw (k, a, above_zero n h) refl;
  great = λ k a h. rw (k, a, above_zero n h) refl;
  bare = λ h. ⊎_elim
      (λ b. rw (no_prefix d.conversion b) (either (d.flags.alternate && not (eqb n 0))))
      (λ r. ⊎_elim (λ a. rw a refl) (λ e. rw e (rw (off d.flags.alternate) refl)) r)
      h;
}

signed_law : (d : Directive) (r : Result ℤ Fault) (text : List ℕ) → d.conversion ≡ kind.Signed → and_then r (signed_result d) ≡ Ok text
    → (z : ℤ) × (r ≡ Ok z) × (unsigned_abs z < 2 ^ 64 → (before : List ℕ) × IsSign d.flags z before × WritesNumber d before (unsigned_abs z) text)
signed_law d (Ok z) text e h =
    let same : signed_text d z ≡ text = cc in
    let n = unsigned_abs z in (
      z,
      refl,
      λ l.
          let back : digits_value (base_of d.conversion) (own_digits d n (decimal n)) ≡ n = rw e (own_back d 10 n (decimal n) (decimal_back n l)) in
          let digits : unsigned_digits d n ≡ own_digits d n (decimal n) = rw e refl in
          let own : IsFinal d n (own_digits d n (decimal n)) = subst (IsFinal d n) digits (final_of d n l) in
          (sign_text d.flags z, sign_is d.flags z, rw (← same) (number_is d (sign_text d.flags z) (own_digits d n (decimal n)) n own back)),
    )
signed_law d (Err f) text e h = absurd cc

unsigned_law : (d : Directive) (r : Result ℤ Fault) (text : List ℕ) → ((n : ℕ) → n < 2 ^ 64 → digits_value (base_of d.conversion) (conversion_digits d.conversion n) ≡ n) → and_then r (unsigned_result d) ≡ Ok text
    → (n : ℕ) × (r ≡ Ok (pos n)) × (n < 2 ^ 64 → (before : List ℕ) × IsPrefix d n before × WritesNumber d before n text)
unsigned_law d (Ok (pos n)) text back h =
    let same : unsigned_text d n ≡ text = cc in
    (n, refl, λ l. (unsigned_prefix d n, prefix_is d n, rw (← same) (number_is d (unsigned_prefix d n) (unsigned_digits d n) n (final_of d n l) (unsigned_back d n (back n l)))))
unsigned_law d (Ok (negsuc n)) text back h = absurd cc
unsigned_law d (Err f) text back h = absurd cc

-- ---- texts

beginning_is : (d : Directive) (p : Option ℕ) (t : List ℕ) → d.precision ≡ p → WritesText d t (in_width d (beginning p t))
beginning_is d None t e = record {
  count = length t;
  padded = rw take-length (in_width_is d t);
  whole = λ h. refl;
  cut = rw e tt;
}
beginning_is d (Some p) t e = record {
  count = min p (length t);
  padded = subst (λ l. InWidth d l (in_width d (take p t))) (sym (take_least p t)) (in_width_is d (take p t));
  whole = λ h. absurd cc;
  cut = rw e refl;
}
  where
    take_least : (p : ℕ) (t : List ℕ) → take (min p (length t)) t ≡ take p t
    take_least p t = elim (cases_lt p (length t)) [
      | inl l ↦ let m : min p (length t) ≡ p = omega arith in rw m refl
      | inr g ↦ let m : min p (length t) ≡ length t = omega arith in rw (m, take-length t) (sym (take_all p t (omega arith)))
    ]

byte_code : (z : ℤ) (b : List ℕ) → byte_of z ≡ Ok b → IsCode z b
byte_code (pos n) b h = go (ltb n 256) refl h
  where
    go : (t : Bool) → ltb n 256 ≡ t → cond {A = Result (List ℕ) Fault} t (Ok (n ∷ [])) (Err Format) ≡ Ok b → IsCode (pos n) b
    go true e h = let same : b ≡ n ∷ [] = cc in (n, refl, ltb-true n 256 e, same)
    go false e h = absurd cc
byte_code (negsuc n) b h = absurd cc

byte_none : (z : ℤ) (f : Fault) → byte_of z ≡ Err f → (f ≡ Format) × HasNoByte z
byte_none (pos n) f h = go (ltb n 256) refl h
  where
    go : (t : Bool) → ltb n 256 ≡ t → cond {A = Result (List ℕ) Fault} t (Ok (n ∷ [])) (Err Format) ≡ Err f → (f ≡ Format) × HasNoByte (pos n)
    go true e h = absurd cc
    go false e h = let same : f ≡ Format = cc in (same, λ m l g. let is : n ≡ m = cc in absurd (grind (arith, nat_tests)))
byte_none (negsuc n) f h = let same : f ≡ Format = cc in (same, λ m l g. absurd cc)

byte_is : (v : Val) (b : List ℕ) → character v ≡ Ok b → IsByte v b
byte_is Uninit b h = cc
byte_is (Num z) b h = byte_code z b h
byte_is (Text s) b h = cc
byte_is (Maybe s) b h = go (looks s) refl h
  where
    code : (r : Result ℤ Fault) → and_then r byte_of ≡ Ok b → (z : ℤ) × (r ≡ Ok z) × IsCode z b
    code (Ok z) h = (z, refl, byte_code z b h)
    code (Err f) h = absurd cc

    go : (t : Bool) → looks s ≡ t → cond t (and_then (num_of (Maybe s)) byte_of) (Ok (take 1 s)) ≡ Ok b → IsByte (Maybe s) b
    go true e h = (λ is. code (num_of (Maybe s)) h, λ is. absurd cc)
    go false e h = (λ is. absurd cc, λ is. cc)

no_byte : (v : Val) (f : Fault) → character v ≡ Err f → NoByte v f
no_byte Uninit f h = absurd cc
no_byte (Num z) f h = byte_none z f h
no_byte (Text s) f h = absurd cc
no_byte (Maybe s) f h = go (looks s) refl h
  where
    code : (r : Result ℤ Fault) → and_then r byte_of ≡ Err f → (r ≡ Err f) ⊎ ((f ≡ Format) × (z : ℤ) × (r ≡ Ok z) × HasNoByte z)
    code (Ok z) h = let x = byte_none z f h in inr (x.0, z, refl, x.1)
    code (Err g) h = inl cc

    go : (t : Bool) → looks s ≡ t → cond t (and_then (num_of (Maybe s)) byte_of) (Ok (take 1 s)) ≡ Err f → NoByte (Maybe s) f
    go true e h = (e, code (num_of (Maybe s)) h)
    go false e h = absurd cc

character_law : (d : Directive) (v : Val) (r : Result (List ℕ) Fault) (text : List ℕ) → character v ≡ r → and_then r (character_result d) ≡ Ok text → (b : List ℕ) × IsByte v b × InWidth d b text
character_law d v (Ok b) text e h = let same : in_width d b ≡ text = cc in (b, byte_is v b e, rw (← same) (in_width_is d b))
character_law d v (Err f) text e h = absurd cc

-- ---- the law

law_by : (k : Conversion) (d : Directive) → d.conversion ≡ k → (v : Val) (text : List ℕ) → text_by k d v ≡ Ok text → WritesBy k d v text
law_by kind.Signed d e v text h = signed_law d (num_of v) text e h
law_by kind.Unsigned d e v text h = unsigned_law d (num_of v) text (λ n l. rw e (decimal_back n l)) h
law_by kind.Octal d e v text h = unsigned_law d (num_of v) text (λ n l. rw e (radix_back 8 false n (omega arith) (omega arith))) h
law_by kind.Hexadecimal d e v text h = unsigned_law d (num_of v) text (λ n l. rw e (radix_back 16 false n (omega arith) (omega arith))) h
law_by kind.UpperHexadecimal d e v text h = unsigned_law d (num_of v) text (λ n l. rw e (radix_back 16 true n (omega arith) (omega arith))) h
law_by kind.Text d e v text h = let same : string_text d v ≡ text = cc in subst (WritesText d (text_of v)) same (beginning_is d d.precision (text_of v) refl)
law_by kind.Byte d e v text h = character_law d v (character v) text refl h

pub directive_law : (d : Directive) → DirectiveLaw d
directive_law d v text h = law_by d.conversion d refl v text h

-- ---- faults

signed_fails : (d : Directive) (r : Result ℤ Fault) (f : Fault) → and_then r (signed_result d) ≡ Err f → r ≡ Err f
signed_fails d (Ok z) f h = absurd cc
signed_fails d (Err g) f h = cc

unsigned_fails : (d : Directive) (r : Result ℤ Fault) (f : Fault) → and_then r (unsigned_result d) ≡ Err f → (r ≡ Err f) ⊎ ((f ≡ Negative) × (n : ℕ) × (r ≡ Ok (negsuc n)))
unsigned_fails d (Ok (pos n)) f h = absurd cc
unsigned_fails d (Ok (negsuc n)) f h = let same : f ≡ Negative = cc in inr (same, n, refl)
unsigned_fails d (Err g) f h = inl cc

byte_fails : (d : Directive) (v : Val) (r : Result (List ℕ) Fault) (f : Fault) → character v ≡ r → and_then r (character_result d) ≡ Err f → NoByte v f
byte_fails d v (Ok b) f e h = absurd cc
byte_fails d v (Err g) f e h = no_byte v f cc

fails_by : (k : Conversion) (d : Directive) (v : Val) (f : Fault) → text_by k d v ≡ Err f → FailsBy k v f
fails_by kind.Signed d v f h = signed_fails d (num_of v) f h
fails_by kind.Unsigned d v f h = unsigned_fails d (num_of v) f h
fails_by kind.Octal d v f h = unsigned_fails d (num_of v) f h
fails_by kind.Hexadecimal d v f h = unsigned_fails d (num_of v) f h
fails_by kind.UpperHexadecimal d v f h = unsigned_fails d (num_of v) f h
fails_by kind.Text d v f h = absurd cc
fails_by kind.Byte d v f h = byte_fails d v (character v) f refl h

pub directive_faults : (d : Directive) → DirectiveFaults d
directive_faults d v f h = fails_by d.conversion d v f h

-- ---- the flag `0`

abbrev Idle : Directive → Type 0
Idle d = (d.flags.left || is_some d.precision) ≡ true

count_idle : (a b left : Bool) (p : Option ℕ) (width before count : ℕ) → (left || is_some p) ≡ true → zero_count (a && not left) p width before count ≡ zero_count (b && not left) p width before count
count_idle a b left (Some p) width before count h = refl
count_idle true true true None width before count h = refl
count_idle true false true None width before count h = refl
count_idle false true true None width before count h = refl
count_idle false false true None width before count h = refl
count_idle a b false None width before count h = absurd cc

number_idle : (d : Directive) (flag : Bool) (prefix ds : List ℕ) → Idle d → number_text (with_flag_zero flag d) prefix ds ≡ number_text d prefix ds
number_idle d flag prefix ds h = ap (λ c. in_width d (prefix ++ (zeros c ++ ds))) (count_idle flag d.flags.zero d.flags.left d.precision d.width (length prefix) (length ds) h)

signed_idle : (d : Directive) (flag : Bool) (r : Result ℤ Fault) → Idle d → and_then r (signed_result (with_flag_zero flag d)) ≡ and_then r (signed_result d)
signed_idle d flag (Ok z) h = ap Ok (number_idle d flag (sign_text d.flags z) (own_digits d (unsigned_abs z) (decimal (unsigned_abs z))) h)
signed_idle d flag (Err f) h = refl

unsigned_idle : (d : Directive) (flag : Bool) (r : Result ℤ Fault) → Idle d → and_then r (unsigned_result (with_flag_zero flag d)) ≡ and_then r (unsigned_result d)
unsigned_idle d flag (Ok (pos n)) h = ap Ok (number_idle d flag (unsigned_prefix d n) (unsigned_digits d n) h)
unsigned_idle d flag (Ok (negsuc n)) h = refl
unsigned_idle d flag (Err f) h = refl

idle_by : (k : Conversion) (d : Directive) (v : Val) (flag : Bool) → Idle d → text_by k (with_flag_zero flag d) v ≡ text_by k d v
idle_by kind.Signed d v flag h = signed_idle d flag (num_of v) h
idle_by kind.Unsigned d v flag h = unsigned_idle d flag (num_of v) h
idle_by kind.Octal d v flag h = unsigned_idle d flag (num_of v) h
idle_by kind.Hexadecimal d v flag h = unsigned_idle d flag (num_of v) h
idle_by kind.UpperHexadecimal d v flag h = unsigned_idle d flag (num_of v) h
idle_by kind.Text d v flag h = refl
idle_by kind.Byte d v flag h = refl

pub zero_is_idle : (d : Directive) → ZeroIsIdle d
zero_is_idle d v flag h = idle_by d.conversion d v flag h
