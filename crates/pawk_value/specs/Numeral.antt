-- The number that a text shows (POSIX.1-2017, awk, "Expressions in awk", without hexadecimal forms, infinities and NaNs).
use Rattle.std.specs.Prelude.{◌≡◌, ℕ, ℤ, pos, neg_ℤ, ◌+◌, ◌-◌, ◌*◌, ◌<◌, ◌≤◌, ◌==◌, ◌&&◌, Bool, true, false, not, is_some, if◌then◌else◌, List, [], ◌∷◌, ◌++◌, take, drop, length, slice_index, slice_range, fold, Option, Some, None, IfSome, option_to_list, Result, Ok, Err}
use Rattle.std.specs.List.{prefix_len}
use Rattle.pawk_value.specs.declared.faults.Fault.{Fault}
use Rattle.pawk_value.specs.declared.faults.Fault.TheVariants.{Numeral}
use Rattle.pawk_value.specs.Bytes.{is_blank, is_digit, is_minus, is_sign, is_point, is_e}
use Rattle.pawk_value.specs.Range.{in_range_or_fault}

-- ---- the form of a numeral: sign? (digits (. digits*)? | . digits) ([eE] sign? digits)?

abbrev pub AreDigits : List ℕ → Type 0
AreDigits [] = Unit {0}
AreDigits (d ∷ ds) = (is_digit d ≡ true) × AreDigits ds

abbrev pub IsSign : ℕ → Type 0
IsSign b = is_sign b ≡ true

-- an exponent: its letter, its sign if it has one, its digits
pub record Exponent : Type 0 where
  pub letter : ℕ
  pub sign : Option ℕ
  pub digits : List ℕ

pub record IsExponent (e : Exponent) : Type 0 where
  pub letter : is_e e.letter ≡ true
  pub sign : IfSome e.sign IsSign
  pub digits : AreDigits e.digits
  pub some : 0 < length e.digits

-- the parts of a numeral: its sign, the digits before the point, those after it if there is a point, its exponent
pub record Parts : Type 0 where
  pub sign : Option ℕ
  pub whole : List ℕ
  pub fraction : Option (List ℕ)
  pub exponent : Option Exponent

abbrev pub fraction_digits : Option (List ℕ) → List ℕ
fraction_digits None = []
fraction_digits (Some ds) = ds

-- each part is what it is to be, and a digit is before or after the point
pub record IsProper (p : Parts) : Type 0 where
  pub sign : IfSome p.sign IsSign
  pub whole : AreDigits p.whole
  pub fraction : AreDigits (fraction_digits p.fraction)
  pub exponent : IfSome p.exponent IsExponent
  pub some : 0 < length p.whole + length (fraction_digits p.fraction)

abbrev pub fraction_text : Option (List ℕ) → List ℕ
fraction_text None = []
fraction_text (Some ds) = 46 ∷ ds

abbrev pub exponent_text : Option Exponent → List ℕ
exponent_text None = []
exponent_text (Some e) = e.letter ∷ (option_to_list e.sign ++ e.digits)

-- the bytes of the parts
abbrev pub spelling : Parts → List ℕ
spelling p = option_to_list p.sign ++ (p.whole ++ (fraction_text p.fraction ++ exponent_text p.exponent))

abbrev pub Spells : List ℕ → Parts → Type 0
Spells s p = IsProper p × (s ≡ spelling p)

-- i is the first place of s that holds no blank
pub record IsFirstPlace (s : List ℕ) (i : ℕ) : Type 0 where
  pub within : i ≤ length s
  pub before : (k : ℕ) → k < i → is_blank (slice_index s k) ≡ true
  pub here : i < length s → is_blank (slice_index s i) ≡ false

-- the numeral of s begins at its first place that holds no blank, and is the longest from there
pub record IsNumeral (s : List ℕ) (i j : ℕ) : Type 0 where
  pub first : IsFirstPlace s i
  pub within : j ≤ length s
  pub form : (p : Parts) × Spells (slice_range s i j) p
  pub longest : (k : ℕ) (p : Parts) → k ≤ length s → Spells (slice_range s i k) p → k ≤ j

-- ---- the number of a numeral

-- the number that digits write
abbrev pub digits_value : List ℕ → ℕ
digits_value ds = fold (λ n c. 10 * n + (c - 48)) 0 ds

abbrev pub signed : Bool → ℕ → ℤ
signed negative n = if negative then neg_ℤ (pos n) else pos n

-- the sign is a minus
abbrev pub has_minus : Option ℕ → Bool
has_minus None = false
has_minus (Some b) = is_minus b

-- no digit after the point and no exponent
abbrev pub is_whole : Parts → Bool
is_whole p = (length (fraction_digits p.fraction) == 0) && not (is_some p.exponent)

-- a numeral that is not whole is a fault
abbrev pub number_of_parts : Parts → Result ℤ Fault
number_of_parts p = if is_whole p then in_range_or_fault (signed (has_minus p.sign) (digits_value p.whole)) else Err Numeral

-- r is the number of the text s: 0 where it has no numeral, else that of its numeral
pub data NumberIs (s : List ℕ) (r : Result ℤ Fault) : Type 0 where
  without : ((i j : ℕ) → IsNumeral s i j → ⊥) → r ≡ Ok (pos 0) → NumberIs s r
  numeral : (i j : ℕ) (p : Parts) → IsNumeral s i j → Spells (slice_range s i j) p → r ≡ number_of_parts p → NumberIs s r

-- ---- the number of a text as it is read

-- what follows the bytes in front that pass
abbrev pub after_while : (ℕ → Bool) → List ℕ → List ℕ
after_while p s = drop (prefix_len p s) s

abbrev pub begins : (ℕ → Bool) → List ℕ → Bool
begins p [] = false
begins p (b ∷ s) = p b

abbrev pub without_sign : List ℕ → List ℕ
without_sign s = if begins is_sign s then drop 1 s else s

abbrev pub without_point : List ℕ → List ℕ
without_point s = if begins is_point s then drop 1 s else s

abbrev pub has_fraction : List ℕ → Bool
has_fraction s = begins is_point s && begins is_digit (drop 1 s)

abbrev pub has_exponent : List ℕ → Bool
has_exponent s = begins is_e s && begins is_digit (without_sign (drop 1 s))

-- the number of a numeral that begins with `count` digits that write this value, and goes on so
abbrev pub number_of_digits : Bool → ℕ → ℕ → List ℕ → Result ℤ Fault
number_of_digits negative count value rest =
    if has_fraction rest then Err Numeral else
    (if count == 0 then Ok (pos 0) else
    (if has_exponent (without_point rest) then Err Numeral else
    in_range_or_fault (signed negative value)))

-- the number of a numeral without its sign: the digits in front, where neither a fraction nor an exponent follows
abbrev pub unsigned_number : Bool → List ℕ → Result ℤ Fault
unsigned_number negative s =
    number_of_digits negative (prefix_len is_digit s) (digits_value (take (prefix_len is_digit s) s)) (after_while is_digit s)

-- the number of a text: 0 where no numeral is in front
unfoldable pub number_of : List ℕ → Result ℤ Fault
number_of s =
    let t = after_while is_blank s in
    unsigned_number (begins is_minus t) (without_sign t)

-- it is the one number of the text
abbrev pub NumeralLaw : List ℕ → Type 0
NumeralLaw s = NumberIs s (number_of s) × ((r : Result ℤ Fault) → NumberIs s r → r ≡ number_of s)
