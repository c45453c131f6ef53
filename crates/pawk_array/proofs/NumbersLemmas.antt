-- Numbers that are read back.
use Rattle.std.proofs.Common.{◌≡◌, ℕ, ◌+◌, ◌*◌, ◌-◌, ◌^◌, ◌<◌, min, true, List, [], ◌∷◌, length, take, refl, ◌∙◌, ap, arith, rules, take_all}
use Rattle.std.specs.Prelude.{fold}
use Rattle.std.specs.List.{prefix_len}
use Rattle.std.specs.Str.{all_ascii_digits}
use Rattle.std.specs.Fmt.{decimal}
use Rattle.std.proofs.lemmas.Bool.{and_parts}
use Rattle.std.proofs.lemmas.Str.Parse.{IsNumeralModel, numerals_by_fold}
use Rattle.std.proofs.lemmas.Fmt.{digits_decimal, digits_value-decimal}
use Rattle.pawk_value.specs.Bytes.{is_digit}
use Rattle.pawk_value.specs.Numeral.{digits_value}

own : IsNumeralModel (λ ds. all_ascii_digits ds ≡ true) digits_value
own = numerals_by_fold _ (search rules) (λ n ds. fold (λ m c. 10 * m + (c - 48)) n ds) (search rules)

all_digits : (ds : List ℕ) → all_ascii_digits ds ≡ true → prefix_len is_digit ds ≡ length ds
all_digits [] h = refl
all_digits (c ∷ ds) h =
    let parts = and_parts (is_digit c) (all_ascii_digits ds) h in
    rw (parts.0, all_digits ds parts.1) (omega arith)

-- the digits in front of the text of a number write that number
pub number_read : (n : ℕ) → n < 2 ^ 63 → min (digits_value (take (prefix_len is_digit (decimal n)) (decimal n))) 9223372036854775809 ≡ n
number_read n small =
    let all = all_digits (decimal n) (digits_decimal own n (omega (arith, small))) in
    let value : digits_value (decimal n) ≡ n = digits_value-decimal own n (omega (arith, small)) in
    rw (all, take_all (length (decimal n)) (decimal n) (omega arith), value) (omega (arith, small))

pub key_number : (k : List ℕ) (v n : ℕ) → v ≡ min (digits_value (take (prefix_len is_digit k) k)) 9223372036854775809 → k ≡ decimal n → n < 2 ^ 63 → v ≡ n
key_number k v n e same small = e ∙ ap (λ x. min (digits_value (take (prefix_len is_digit x) x)) 9223372036854775809) same ∙ number_read n small
