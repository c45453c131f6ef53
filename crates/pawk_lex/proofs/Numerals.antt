-- What digits write.
use Rattle.std.proofs.Common.{◌≡◌, ◌≤◌, ◌<◌, ℕ, ◌+◌, ◌-◌, ◌*◌, Bool, true, false, cond, [], ◌∷◌, length, Option, Some, None, refl, ap, arith, le-leb}
use Rattle.std.specs.Prelude.{nat_lt, nat_le}
use Rattle.std.specs.Char.{is_ascii_digit, digit_value}
use Rattle.std.specs.Int.{IsInRange}
use Rattle.std.specs.Fmt.{decimal}
use Rattle.std.specs.Str.Parse.{AllDigits, digits_value_after}
use Rattle.std.proofs.lemmas.Bool.{and_parts, leb-true}
use Rattle.std.proofs.lemmas.Bool.Decides.{nat_tests}
use Rattle.std.proofs.lemmas.Str.{digit_value_digit}
use Rattle.std.proofs.lemmas.Str.Parse.{digit_from_value}
use Rattle.std.proofs.lemmas.Fmt.{decimal_is_IsNumeral}
use Rattle.std.proofs.lemmas.Option.{none-some}
use Rattle.pawk_lex.specs.Bytes.{Text, AllAre, BeginsBy}
use Rattle.pawk_lex.specs.Next.{value_from}
use Rattle.pawk_lex.specs.Cut.{IsNumeralOf}

pub a_digit : (c : ℕ) → digit_value c < 10 → is_ascii_digit c ≡ true
a_digit c h =
    let r = digit_from_value c h in
    let low : nat_le 48 c ≡ true = le-leb 48 c (omega (arith, r)) in
    let high : nat_le c 57 ≡ true = le-leb c 57 (omega (arith, r)) in
    rw (low, high) refl

pub all_digits : (ds : Text) → AllDigits 10 ds → AllAre is_ascii_digit ds
all_digits [] h = tt
all_digits (c ∷ ds) h = (a_digit c h.0, all_digits ds h.1)

pub begins_digit : (ds : Text) → 0 < length ds → AllDigits 10 ds → BeginsBy is_ascii_digit true ds
begins_digit [] some h = absurd (omega arith)
begins_digit (c ∷ ds) some h = a_digit c h.0

grows : (m : ℕ) (ds : Text) → m ≤ digits_value_after 10 m ds
grows m [] = omega arith
grows m (c ∷ ds) = omega (arith, grows (m * 10 + digit_value c) ds)

pub value_is : (m v : ℕ) (ds : Text) → AllDigits 10 ds → digits_value_after 10 m ds ≡ v → v ≤ 9223372036854775807 → value_from m ds ≡ Some v
unfolding value_from
value_is m v [] h e le = ap (λ x. Some x) e
value_is m v (c ∷ ds) h e le =
    let g = grows (m * 10 + digit_value c) ds in
    let same : 10 * m + (c - 48) ≡ m * 10 + digit_value c = omega (arith, digit_value_digit c (digit_from_value c h.0)) in
    let small : nat_lt 9223372036854775807 (m * 10 + digit_value c) ≡ false = grind (arith, nat_tests) in
    rw (same, small) (value_is (m * 10 + digit_value c) v ds h.1 e le)

-- every number up to the greatest is written by its decimal digits
pub numeral : (n : ℕ) → n ≤ 9223372036854775807 → IsNumeralOf n (decimal n)
numeral n le = let known = decimal_is_IsNumeral n (omega arith) in record { digits = known.0; value = known.1; small = le }

digit_range : (c : ℕ) → is_ascii_digit c ≡ true → IsInRange 48 57 c
digit_range c h =
    let parts = and_parts (nat_le 48 c) (nat_le c 57) h in
    let low : 48 ≤ c = leb-true 48 c parts.0 in
    let high : c ≤ 57 = leb-true c 57 parts.1 in
    (low, high)

kept_small : (m : ℕ) → nat_lt 9223372036854775807 m ≡ false → m ≤ 9223372036854775807
kept_small m e = grind (arith, nat_tests)

small_step : {A : Type 0} (b : Bool) (x : Option A) (v : A) → cond b None x ≡ Some v → (b ≡ false) × (x ≡ Some v)
small_step true x v e = absurd (none-some _ e)
small_step false x v e = (refl, e)

pub digits_all : (ds : Text) → AllAre is_ascii_digit ds → AllDigits 10 ds
digits_all [] h = tt
digits_all (c ∷ ds) h = (omega (arith, digit_value_digit c (digit_range c h.0), digit_range c h.0), digits_all ds h.1)

-- what value_from finds is what the digits write
pub value_sound : (ds : Text) (m v : ℕ) → m ≤ 9223372036854775807 → AllAre is_ascii_digit ds → value_from m ds ≡ Some v → (digits_value_after 10 m ds ≡ v) × (v ≤ 9223372036854775807)
unfolding value_from
value_sound [] m v le h e = let same : m ≡ v = cc in (same, omega arith)
value_sound (c ∷ ds) m v le h e =
    let step = small_step (nat_lt 9223372036854775807 (10 * m + (c - 48))) (value_from (10 * m + (c - 48)) ds) v e in
    let same : 10 * m + (c - 48) ≡ m * 10 + digit_value c = omega (arith, digit_value_digit c (digit_range c h.0)) in
    rw (← same) (value_sound ds (10 * m + (c - 48)) v (kept_small _ step.0) h.1 step.1)
