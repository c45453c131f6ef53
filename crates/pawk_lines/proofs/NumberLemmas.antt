-- Which bytes begin a number.
use Rattle.std.proofs.Common.{◌≡◌, ◌≤◌, ◌<◌, ℕ, zero, suc, pos, negsuc, true, false, List, [], ◌∷◌, ◌++◌, length, get_or, take, refl, sym, ap, ◌∙◌, arith, append_assoc}
use Rattle.std.specs.Char.{is_ascii_digit}
use Rattle.std.specs.Fmt.{decimal}
use Rattle.std.specs.List.{prefix_len}
use Rattle.std.proofs.lemmas.List.{append-nil, take_all}
use Rattle.std.proofs.lemmas.Fmt.{decimal_digit}
use Rattle.pawk_words.specs.Words.{AllAre, size_limit}
use Rattle.pawk_words.specs.Spelling.{digits_value}
use Rattle.pawk_words.specs.Reading.{IsDecimalFront, IsNoDecimalFront}
use Rattle.pawk_words.proofs.Numerals.{digits_of_decimal, value_of_decimal, front_value_le, decimal_first}
use Rattle.pawk_words.proofs.Readings.{decimal_here}
use Rattle.pawk_lines.specs.Reading.{BeginsDecimal, BeginsSize, BeginsNumber}

-- digits that the bytes begin are all digits
all_front : (s more : List ℕ) → AllAre is_ascii_digit (s ++ more) → prefix_len is_ascii_digit s ≡ length s
all_front [] more h = refl
all_front (x ∷ s) more h = rw h.0 (let again = all_front s more h.1 in omega arith)

pub decimal_there : (s : List ℕ) (n v g : ℕ) → IsDecimalFront s n v → n ≡ length s → v ≤ g → BeginsDecimal s g
decimal_there [] n v g f all h = (0, omega arith, decimal 0, refl)
decimal_there (x ∷ s) n v g f all h =
    (v, h, [], decimal_here (x ∷ s) n v f (omega arith) ∙ take_all n (x ∷ s) (omega arith) ∙ sym (append-nil (x ∷ s)))

pub decimal_all : (s : List ℕ) (n v g : ℕ) → IsDecimalFront s n v → g ≤ size_limit → BeginsDecimal s g → n ≡ length s
decimal_all s n v g f small b =
    let digits : AllAre is_ascii_digit (s ++ b.2) = rw b.3 at (digits_of_decimal b.0 (omega (arith, b.1))) in
    f.longest ∙ all_front s b.2 digits

pub decimal_most : (s : List ℕ) (n v g : ℕ) → IsDecimalFront s n v → g ≤ size_limit → BeginsDecimal s g → v ≤ g
decimal_most s n v g f small b =
    let all = decimal_all s n v g f small b in
    let whole : take n s ≡ s = take_all n s (omega arith) in
    let value : v ≡ digits_value s = f.value ∙ ap digits_value whole in
    let above : digits_value (s ++ b.2) ≡ b.0 = ap digits_value (sym b.3) ∙ value_of_decimal b.0 (omega (arith, b.1)) in
    omega (arith, front_value_le s b.2, b.1)

pub decimal_none : (s : List ℕ) (g : ℕ) → IsNoDecimalFront s → g ≤ size_limit → BeginsDecimal s g → ⊥
decimal_none s g h small b =
    h (b.2 ++ 32 ∷ []) b.0 32 [] (omega (arith, b.1)) refl (sym (append_assoc s b.2 (32 ∷ [])) ∙ ap (λ l. l ++ 32 ∷ []) (sym b.3))

-- ---- sizes

pub size_empty : (g : ℕ) → 0 < g → BeginsSize [] g
size_empty g h = (1, omega arith, h, decimal 1, refl)

pub size_most : (s : List ℕ) (g : ℕ) → BeginsSize s g → 0 < g
size_most s g b = omega (arith, b.1, b.2)

-- no size begins with a zero
pub size_zero : (x : ℕ) (s : List ℕ) (g : ℕ) → g ≤ size_limit → x ≡ 48 → BeginsSize (x ∷ s) g → ⊥
size_zero x s g small e b =
    let first : get_or (decimal b.0) 0 0 ≡ x = ap (λ l. get_or l 0 0) b.4 in
    omega (arith, decimal_first b.0 b.1 (omega (arith, b.2)))

-- what begins with another digit is above 0
pub size_of_decimal : (x : ℕ) (s : List ℕ) (g : ℕ) → (x ≡ 48 → ⊥) → BeginsDecimal (x ∷ s) g → BeginsSize (x ∷ s) g
size_of_decimal x s g other (zero, h, more, e) =
    let first : 48 ∷ [] ≡ x ∷ s ++ more = sym (decimal_digit 0 (omega arith)) ∙ e in
    let same : 48 ≡ x = cc in
    absurd (other (sym same))
size_of_decimal x s g other (suc n, h, more, e) = (suc n, omega arith, h, more, e)

pub decimal_of_size : (s : List ℕ) (g : ℕ) → BeginsSize s g → BeginsDecimal s g
decimal_of_size s g b = (b.0, b.2, b.3, b.4)

-- ---- numbers

pub number_below : (s : List ℕ) (below above : ℕ) → BeginsSize s below → BeginsNumber (45 ∷ s) below above
number_below s below above (zero, some, h, more, e) = absurd (omega arith)
number_below s below above (suc n, some, h, more, e) = (negsuc n, omega arith, more, ap (λ l. 45 ∷ l) e)

digit_not_minus : (ds more : List ℕ) (n : ℕ) → n ≤ size_limit → decimal n ≡ 45 ∷ ds → ⊥
digit_not_minus ds more n small e =
    let digits : AllAre is_ascii_digit (45 ∷ ds) = rw e at (digits_of_decimal n small) in
    let bad : false ≡ true = digits.0 in
    cc

pub below_number : (s : List ℕ) (below above : ℕ) → above ≤ size_limit → BeginsNumber (45 ∷ s) below above → BeginsSize s below
below_number s below above small (pos n, h, more, e) = absurd (digit_not_minus (s ++ more) [] n (omega arith) e)
below_number s below above small (negsuc n, h, more, e) =
    let tails : decimal (suc n) ≡ s ++ more = cc in
    (suc n, omega arith, omega arith, more, tails)

pub number_empty : (s : List ℕ) (below above : ℕ) → length s < 1 → BeginsNumber s below above
number_empty [] below above h = (pos 0, omega arith, decimal 0, refl)
number_empty (x ∷ s) below above h = absurd (omega arith)

pub number_above : (s : List ℕ) (below above : ℕ) → BeginsDecimal s above → BeginsNumber s below above
number_above s below above b = (pos b.0, b.1, b.2, b.3)

pub above_number : (s : List ℕ) (below above : ℕ) → (get_or s 0 0 ≡ 45 → ⊥) → BeginsNumber s below above → BeginsDecimal s above
above_number s below above other (pos n, h, more, e) = (n, h, more, e)
above_number [] below above other (negsuc n, h, more, e) = (0, omega arith, decimal 0, refl)
above_number (x ∷ s) below above other (negsuc n, h, more, e) =
    let first : 45 ≡ x = cc in
    absurd (other (sym first))
