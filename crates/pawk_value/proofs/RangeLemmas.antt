-- The range of numbers.
use Rattle.std.proofs.Common.{◌≡◌, ℕ, ℤ, pos, negsuc, zero, suc, neg_ℤ, Bool, true, false, Err, List, ◌<◌, ◌^◌, min, ltb, take, drop, inl, inr, refl, ap, sym, ◌∙◌, arith, rules, tests}
use Rattle.std.proofs.lemmas.Bool.{cases_lt}
use Rattle.std.specs.List.{prefix_len}
use Rattle.std.proofs.lemmas.Bool.Decides.{nat_tests}
use Rattle.std.proofs.lemmas.Int.{ints}
use Rattle.pawk_value.specs.declared.faults.Fault.TheVariants.{Overflow}
use Rattle.pawk_value.specs.Range.{FitsWord, in_range, in_range_or_fault}
use Rattle.pawk_value.specs.Bytes.{is_digit}
use Rattle.pawk_value.specs.Numeral.{signed, digits_value, after_while, number_of_digits, unsigned_number}

pub FitsWord-in_range : (z : ℤ) → in_range z ≡ true → FitsWord z
FitsWord-in_range (pos n) h = let k : n < 2 ^ 63 = search (rules, tests) in (omega (arith, ints), omega (arith, ints))
FitsWord-in_range (negsuc n) h = let k : n < 2 ^ 63 = search (rules, tests) in (omega (arith, ints), omega (arith, ints))

pub in_range-FitsWord : (z : ℤ) → FitsWord z → in_range z ≡ true
in_range-FitsWord (pos n) h = let k : n < 2 ^ 63 = omega (arith, ints, h.1) in search (rules, tests)
in_range-FitsWord (negsuc n) h = let k : n < 2 ^ 63 = omega (arith, ints, h.0) in search (rules, tests)

-- ---- out of range

pub out_pos : (m : ℕ) → 2 ^ 63 < m → in_range_or_fault (pos m) ≡ Err Overflow
out_pos m h = let out : ltb m (2 ^ 63) ≡ false = grind (arith, nat_tests) in rw out refl

pub out_neg : (m : ℕ) → 2 ^ 63 < m → in_range_or_fault (neg_ℤ (pos m)) ≡ Err Overflow
out_neg zero h = absurd (omega arith)
out_neg (suc m) h = let out : ltb m (2 ^ 63) ≡ false = grind (arith, nat_tests) in rw out refl

out_signed : (n : Bool) (m : ℕ) → 2 ^ 63 < m → in_range_or_fault (signed n m) ≡ Err Overflow
out_signed true m h = out_neg m h
out_signed false m h = out_pos m h

-- sizes out of range are one
least_value : (n : Bool) (v : ℕ) → in_range_or_fault (signed n (min v 9223372036854775809)) ≡ in_range_or_fault (signed n v)
least_value n v =
    elim (cases_lt v 9223372036854775809) [
      | inl l ↦ let same : min v 9223372036854775809 ≡ v = omega arith in ap (λ m. in_range_or_fault (signed n m)) same
      | inr g ↦
          let most : 2 ^ 63 < min v 9223372036854775809 = omega arith in
          let more : 2 ^ 63 < v = omega arith in
          out_signed n (min v 9223372036854775809) most ∙ sym (out_signed n v more)
    ]

number_of_least_value : (n : Bool) (c v : ℕ) (rest : List ℕ) → number_of_digits n c (min v 9223372036854775809) rest ≡ number_of_digits n c v rest
number_of_least_value n c v rest = rw (least_value n v) refl

pub number_of_leading_digits : (n : Bool) (s rest : List ℕ) (c v : ℕ) → rest ≡ drop c s → c ≡ prefix_len is_digit s → v ≡ min (digits_value (take (prefix_len is_digit s) s)) 9223372036854775809 → number_of_digits n c v rest ≡ unsigned_number n s
number_of_leading_digits n s rest c v r e f = rw (r, e, f) (number_of_least_value n (prefix_len is_digit s) (digits_value (take (prefix_len is_digit s) s)) (after_while is_digit s))
