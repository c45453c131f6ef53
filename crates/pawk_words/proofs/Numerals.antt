-- A number within the limit has one numeral, which `decimal` writes.
use Rattle.std.proofs.Common.{◌≡◌, ◌≤◌, ◌<◌, ℕ, zero, suc, ◌+◌, ◌-◌, ◌*◌, ◌/◌, ◌%◌, ◌^◌, List, [], ◌∷◌, ◌++◌, length, length-append, get_or, fold, refl, sym, ap, ◌∙◌, arith, rules, append_assoc}
use Rattle.std.proofs.lemmas.List.{append-nil}
use Rattle.std.proofs.lemmas.List.Sums.{fold-append}
use lib.ListN.{get_or-append}
use Rattle.std.specs.Prelude.{slice_index}
use Rattle.std.specs.Char.{digit_value, is_ascii_digit}
use Rattle.std.specs.Fmt.{decimal}
use Rattle.std.specs.Str.Parse.{AllDigits, digits_value_after}
use Rattle.std.specs.Str.Parse as parse
use Rattle.std.proofs.lemmas.Str.{digit_value_digit}
use Rattle.std.proofs.lemmas.Str.Parse.{IsNumeralModel, IsDigitsTest, numerals_by_fold, digit_from_value}
use Rattle.std.proofs.lemmas.Fmt.{decimal_is_IsNumeral_wide, decimal_digit, decimal_step_wide, decimal_by_steps_wide}
use Rattle.pawk_words.specs.Words.{size_limit, AllAre}
use Rattle.pawk_words.specs.Spelling.{digits_value, IsNumeral}

-- the number that digits write after those of n
abbrev value_on : ℕ → List ℕ → ℕ
value_on n [] = n
value_on n (d ∷ ds) = value_on (10 * n + (d - 48)) ds

tells : IsDigitsTest (AllAre is_ascii_digit)
tells = search rules

model : IsNumeralModel (AllAre is_ascii_digit) (value_on 0)
model = numerals_by_fold (AllAre is_ascii_digit) tells value_on (search rules)

value_on_is : (n : ℕ) (ds : List ℕ) → value_on n ds ≡ fold (λ m d. 10 * m + (d - 48)) n ds
value_on_is n [] = refl
value_on_is n (d ∷ ds) = value_on_is (10 * n + (d - 48)) ds

-- the digits are those of std
pub same_value : (ds : List ℕ) → AllAre is_ascii_digit ds → digits_value ds ≡ parse.digits_value 10 ds
same_value ds h = sym (value_on_is 0 ds) ∙ model.same ds (model.to ds h)

-- ---- digits with no zero in front are what `decimal` writes

le_value_after : (n : ℕ) (ds : List ℕ) → n ≤ digits_value_after 10 n ds
le_value_after n [] = omega arith
le_value_after n (c ∷ cs) = omega (arith, le_value_after (n * 10 + digit_value c) cs)

decimal_after : (n : ℕ) (ds : List ℕ) → 0 < n → AllDigits 10 ds → digits_value_after 10 n ds < 10 ^ 64 → decimal (digits_value_after 10 n ds) ≡ decimal n ++ ds
decimal_after n [] some d small = sym (append-nil (decimal n))
decimal_after n (c ∷ cs) some d small =
    let m : ℕ = n * 10 + digit_value c in
    let k = digit_value_digit c (digit_from_value c d.0) in
    let front : m / 10 ≡ n = omega (arith, d.0) in
    let end : 48 + m % 10 ≡ c = omega (arith, d.0) in
    decimal_after m cs (omega arith) d.1 small
    ∙ ap (λ x. x ++ cs) (decimal_step_wide m (omega arith) (omega (arith, le_value_after m cs)) ∙ (λ i. decimal (front i) ++ (end i ∷ [])))
    ∙ append_assoc (decimal n) (c ∷ []) cs

decimal_of : (ds : List ℕ) → AllDigits 10 ds → 0 < length ds → (get_or ds 0 0 ≡ 48 → length ds ≡ 1) → parse.digits_value 10 ds < 10 ^ 64 → decimal (parse.digits_value 10 ds) ≡ ds
decimal_of [] d some lead small = absurd (omega arith)
decimal_of (c ∷ []) d some lead small =
    let k = digit_value_digit c (digit_from_value c d.0) in
    decimal_digit (0 * 10 + digit_value c) (omega (arith, d.0)) ∙ ap (λ x. x ∷ []) (omega arith)
decimal_of (c ∷ e ∷ cs) d some lead small =
    let k = digit_value_digit c (digit_from_value c d.0) in
    let no : c ≡ 48 → ⊥ = λ z. omega (arith, lead z) in
    let is : 48 + (0 * 10 + digit_value c) ≡ c = omega arith in
    decimal_after (0 * 10 + digit_value c) (e ∷ cs) (omega arith) d.1 small
    ∙ ap (λ x. x ++ (e ∷ cs)) (decimal_digit (0 * 10 + digit_value c) (omega (arith, d.0)) ∙ ap (λ x. x ∷ []) is)

wide : (n : ℕ) → n ≤ size_limit → n < 10 ^ 64
wide n h = omega arith

-- digits with no zero in front, whose number is within the limit
pub decimal_of_digits : (ds : List ℕ) → AllAre is_ascii_digit ds → 0 < length ds → (get_or ds 0 0 ≡ 48 → length ds ≡ 1) → digits_value ds ≤ size_limit → decimal (digits_value ds) ≡ ds
decimal_of_digits ds h some lead small =
    let same = same_value ds h in
    ap decimal same ∙ decimal_of ds (model.to ds h) some lead (rw (← same) (wide (digits_value ds) small))

-- ---- `decimal` writes a numeral

starts : (n : ℕ) → n < 10 ^ 64 → (0 < length (decimal n)) × (0 < n → 48 < get_or (decimal n) 0 0)
starts = decimal_by_steps_wide (λ m ds. (0 < length ds) × (0 < m → 48 < get_or ds 0 0)) (λ m l. (omega arith, λ a. omega arith))
    (λ m ds l h. (omega (arith, length-append ds ((48 + m % 10) ∷ [])), λ a. omega (arith, get_or-append ds ((48 + m % 10) ∷ []) 0 0 h.0, h.1 (omega arith))))

pub digits_of_decimal : (n : ℕ) → n ≤ size_limit → AllAre is_ascii_digit (decimal n)
digits_of_decimal n h = model.from (decimal n) (decimal_is_IsNumeral_wide n (wide n h)).0.1

pub decimal_some : (n : ℕ) → n ≤ size_limit → 0 < length (decimal n)
decimal_some n h = (starts n (wide n h)).0

-- a number above 0 begins with a digit above `0`
pub decimal_first : (n : ℕ) → 0 < n → n ≤ size_limit → 48 < get_or (decimal n) 0 0
decimal_first n some h = (starts n (wide n h)).1 some

pub value_of_decimal : (n : ℕ) → n ≤ size_limit → digits_value (decimal n) ≡ n
value_of_decimal n h = same_value (decimal n) (digits_of_decimal n h) ∙ (decimal_is_IsNumeral_wide n (wide n h)).1

pub decimal_lead : (n : ℕ) → n ≤ size_limit → slice_index (decimal n) 0 ≡ 48 → decimal n ≡ 48 ∷ []
decimal_lead zero h e = decimal_digit 0 (omega arith)
decimal_lead (suc n) h e = absurd (omega (arith, decimal_first (suc n) (omega arith) h))

pub numeral_of : (n : ℕ) → n ≤ size_limit → IsNumeral (decimal n) n
numeral_of n h = record { digits = digits_of_decimal n h; some = decimal_some n h; lead = decimal_lead n h; value = value_of_decimal n h }

one_digit : (ds : List ℕ) → ds ≡ 48 ∷ [] → length ds ≡ 1
one_digit ds e = ap length e

-- a numeral of a number within the limit is what `decimal` writes
pub numeral_is : (ds : List ℕ) (n : ℕ) → n ≤ size_limit → IsNumeral ds n → ds ≡ decimal n
numeral_is ds n h k =
    let small : digits_value ds ≤ size_limit = rw k.value h in
    sym (decimal_of_digits ds k.digits k.some (λ z. one_digit ds (k.lead z)) small) ∙ ap decimal k.value

-- ---- the number of a part of the digits

fold_grows : (n : ℕ) (ds : List ℕ) → n ≤ fold (λ m d. 10 * m + (d - 48)) n ds
fold_grows n [] = omega arith
fold_grows n (d ∷ ds) = let more = fold_grows (10 * n + (d - 48)) ds in omega arith

-- digits in front write no greater number
pub front_value_le : (ds es : List ℕ) → digits_value ds ≤ digits_value (ds ++ es)
front_value_le ds es = rw (fold-append (λ m d. 10 * m + (d - 48)) 0 ds es) (fold_grows (digits_value ds) es)
