-- Powers in and out of range.
use Rattle.std.proofs.Common.{◌≡◌, ℕ, ℤ, pos, negsuc, zero, suc, neg_ℤ, ◌%◌, ◌^◌, ◌<◌, ◌≤◌, ◌<ℤ◌, ◌≤ℤ◌, ◌≢◌, true, false, cond, eqb, Ok, Err, refl, ◌∙◌, arith}
use Rattle.std.proofs.lemmas.Bool.Decides.{nat_tests}
use Rattle.std.proofs.lemmas.Int.{ints}
use Rattle.std.proofs.Math.Nat.{pow-succ', pow-le-pow_left, pow-le-pow_right}
use Rattle.std.specs.Int.{int_pow}
use Rattle.std.specs.Int.RustNames.{unsigned_abs}
use Rattle.pawk_value.specs.declared.faults.Fault.TheVariants.{Overflow}
use Rattle.pawk_value.specs.Range.{in_range_or_fault}
use Rattle.pawk_value.proofs.RangeLemmas.{out_pos, out_neg}

one_pow : (n : ℕ) → 1 ^ n ≡ 1
one_pow zero = refl
one_pow (suc n) = pow-succ' 1 n ∙ (let more = one_pow n in omega arith)

zero_pow : (n : ℕ) → 0 < n → 0 ^ n ≡ 0
zero_pow zero h = absurd (omega arith)
zero_pow (suc n) h = pow-succ' 0 n ∙ omega arith

too_great : (a n : ℕ) → 2 ≤ a → 64 ≤ n → 2 ^ 63 < a ^ n
too_great a n h k =
    let least : 2 ^ 64 ≤ 2 ^ n = pow-le-pow_right (omega arith) k in
    let more : 2 ^ n ≤ a ^ n = pow-le-pow_left h n in
    omega arith

pub great_power : (z : ℤ) (n : ℕ) → 1 < unsigned_abs z → 64 ≤ n → in_range_or_fault (int_pow z n) ≡ Err Overflow
great_power (pos a) n h k = out_pos (a ^ n) (too_great a n (omega arith) k)
great_power (negsuc a) n h k =
    let great = too_great (suc a) n (omega arith) k in
    elim (eqb (n % 2) 0) as (λ v. in_range_or_fault (cond v (pos (suc a ^ n)) (neg_ℤ (pos (suc a ^ n)))) ≡ Err Overflow) [ true ↦ out_pos (suc a ^ n) great | false ↦ out_neg (suc a ^ n) great ]

pub odd_power : (z : ℤ) (n : ℕ) → unsigned_abs z ≤ 1 → z <ℤ pos 0 → n % 2 ≡ 1 → in_range_or_fault (int_pow z n) ≡ Ok (negsuc 0)
odd_power (pos a) n h l o = absurd (omega (arith, ints))
odd_power (negsuc zero) n h l o = let odd : eqb (n % 2) 0 ≡ false = grind (arith, nat_tests) in rw (odd, one_pow n) refl
odd_power (negsuc (suc a)) n h l o = absurd (omega arith)

pub even_power : (z : ℤ) (n : ℕ) → unsigned_abs z ≤ 1 → z <ℤ pos 0 → n % 2 ≢ 1 → in_range_or_fault (int_pow z n) ≡ Ok (pos (unsigned_abs z))
even_power (pos a) n h l o = absurd (omega (arith, ints))
even_power (negsuc zero) n h l o = let even : eqb (n % 2) 0 ≡ true = grind (arith, nat_tests) in rw (even, one_pow n) refl
even_power (negsuc (suc a)) n h l o = absurd (omega arith)

pub small_power : (z : ℤ) (n : ℕ) → unsigned_abs z ≤ 1 → pos 0 ≤ℤ z → 0 < n → in_range_or_fault (int_pow z n) ≡ Ok (pos (unsigned_abs z))
small_power (pos zero) n h l k = rw (zero_pow n k) refl
small_power (pos (suc zero)) n h l k = rw (one_pow n) refl
small_power (pos (suc (suc a))) n h l k = absurd (omega arith)
small_power (negsuc a) n h l k = absurd (omega (arith, ints))
