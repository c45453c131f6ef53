-- Which digits in front of bytes begin no number in decimal.
use Rattle.std.proofs.Common.{◌≡◌, ◌≤◌, ◌<◌, ℕ, ◌+◌, true, false, List, [], ◌∷◌, ◌++◌, length, length-append, get_or, take, min, refl, sym, ap, ◌∙◌, arith, one-add}
use Rattle.std.specs.Char.{is_ascii_digit}
use Rattle.std.specs.Prelude.{◌==◌}
use Rattle.std.specs.Fmt.{decimal}
use Rattle.std.specs.List.{prefix_len}
use Rattle.std.proofs.lemmas.Bool.{eqb-true, false≢true}
use Rattle.std.proofs.lemmas.List.{length-take-le, get_or-take, get_or_append_left}
use Rattle.pawk_words.specs.Words.{AllAre, size_limit}
use Rattle.pawk_words.specs.Spelling.{digits_value}
use Rattle.pawk_words.specs.Reading.{IsNoDecimalFront}
use Rattle.pawk_words.proofs.Numerals.{digits_of_decimal, decimal_some, decimal_lead, value_of_decimal, front_value_le}
use Rattle.pawk_words.proofs.Fronts.{first_passes}

-- a run of digits that is in front begins with the digits there
part : (s more xs : List ℕ) (c : ℕ) (rest : List ℕ) → AllAre is_ascii_digit xs → is_ascii_digit c ≡ false → s ++ more ≡ xs ++ c ∷ rest → (es : List ℕ) × (xs ≡ take (prefix_len is_ascii_digit s) s ++ es)
part [] more xs c rest h k e = (xs, refl)
part (x ∷ s) more [] c rest h k e =
    let same : x ≡ c = cc in
    ([], rw (ap is_ascii_digit same ∙ k) refl)
part (x ∷ s) more (y ∷ xs) c rest h k e =
    let same : x ≡ y = cc in
    let tails : s ++ more ≡ xs ++ c ∷ rest = cc in
    let again = part s more xs c rest h.1 k tails in
    let fronts : y ∷ xs ≡ x ∷ (take (prefix_len is_ascii_digit s) s ++ again.0) = ap (λ l. y ∷ l) again.1 ∙ ap (λ v. v ∷ (take (prefix_len is_ascii_digit s) s ++ again.0)) (sym same) in
    (again.0, rw (ap is_ascii_digit same ∙ h.0, one-add (prefix_len is_ascii_digit s)) fronts)

pub some_bytes : (s : List ℕ) → false ≡ (length s == 0) → 0 < length s
some_bytes [] e = absurd (false≢true e)
some_bytes (x ∷ s) e = omega arith

pub no_bytes : (s : List ℕ) → true ≡ (length s == 0) → length s < 1
no_bytes s e = let none : length s ≡ 0 = eqb-true (length s) 0 (sym e) in omega arith

-- the first byte is no digit
pub no_digit : (s : List ℕ) → prefix_len is_ascii_digit s ≡ 0 → 0 < length s → IsNoDecimalFront s
no_digit [] none some = absurd (omega arith)
no_digit (x ∷ s) none some = λ more n c rest h k e.
    let first = first_passes is_ascii_digit (decimal n) x (s ++ more) (c ∷ rest) (digits_of_decimal n h) (decimal_some n h) e in
    let long : 1 + prefix_len is_ascii_digit s ≡ 0 = rw first at none in
    omega arith

-- a zero is in front of other digits
pub led_by_zero : (s : List ℕ) (n : ℕ) → n ≡ prefix_len is_ascii_digit s → n ≤ length s → 1 < n → get_or s 0 0 ≡ 48 → IsNoDecimalFront s
led_by_zero s n is within more_digits zero more m c rest h k e =
    let p = part s more (decimal m) c rest (digits_of_decimal m h) k e in
    let front : decimal m ≡ take n s ++ p.0 = rw is p.1 in
    let long = length-take-le n s within in
    let first : get_or (decimal m) 0 0 ≡ 48 = ap (λ l. get_or l 0 0) front ∙ get_or_append_left (take n s) p.0 0 0 (omega (arith, long)) ∙ get_or-take n s 0 0 (omega arith) ∙ zero in
    omega (arith, ap length (decimal_lead m h first), ap length front, length-append (take n s) p.0, long)

-- the digits write a number past the limit
pub past_limit : (s : List ℕ) (n v : ℕ) → n ≡ prefix_len is_ascii_digit s → v ≡ min (digits_value (take n s)) 18446744073709551617 → size_limit < v → IsNoDecimalFront s
past_limit s n v is size past more m c rest h k e =
    let p = part s more (decimal m) c rest (digits_of_decimal m h) k e in
    let front : decimal m ≡ take n s ++ p.0 = rw is p.1 in
    let grows = front_value_le (take n s) p.0 in
    omega (arith, grows, sym (ap digits_value front) ∙ value_of_decimal m h)
