-- The first byte of a word tells its kind.
use Rattle.std.proofs.Common.{◌≡◌, ◌≤◌, ℕ, suc, true, false, pos, negsuc, List, [], ◌∷◌, ◌++◌, length, length-append, refl, sym, ap, ◌∙◌, arith, append_assoc}
use Rattle.std.specs.Char.{is_ascii_digit, is_ascii_lowercase}
use Rattle.std.specs.Fmt.{decimal}
use Rattle.std.proofs.lemmas.Bool.{false≢true}
use Rattle.std.proofs.lemmas.Bool.Decides.{nat_tests}
use Rattle.pawk_words.specs.declared.word.Gap.{Gap}
use Rattle.pawk_words.specs.declared.word.Gap.TheVariants.{Space, Newline}
use Rattle.pawk_words.specs.Words.{Word, name, number, text, IsName, IsWord, gap_byte, written_word, size_limit, Begins}
use Rattle.pawk_words.proofs.Fronts.{first_passes}
use Rattle.pawk_words.proofs.Numerals.{digits_of_decimal, decimal_some}

-- ---- bytes apart

pub gap_no_letter : (g : Gap) → is_ascii_lowercase (gap_byte g) ≡ false
gap_no_letter Space = refl
gap_no_letter Newline = refl

pub gap_no_digit : (g : Gap) → is_ascii_digit (gap_byte g) ≡ false
gap_no_digit Space = refl
gap_no_digit Newline = refl

pub gap_no_colon : (g : Gap) → gap_byte g ≡ 58 → ⊥
gap_no_colon Space e = omega arith
gap_no_colon Newline e = omega arith

pub same_gap : (g h : Gap) → gap_byte g ≡ gap_byte h → g ≡ h
same_gap Space Space e = refl
same_gap Space Newline e = absurd (omega arith)
same_gap Newline Space e = absurd (omega arith)
same_gap Newline Newline e = refl

pub digit_no_letter : (b : ℕ) → is_ascii_digit b ≡ true → is_ascii_lowercase b ≡ false
digit_no_letter b h = grind (arith, nat_tests)

digit_no_minus : (b : ℕ) → is_ascii_digit b ≡ true → b ≡ 45 → ⊥
digit_no_minus b h e = let bad : is_ascii_digit 45 ≡ true = rw e at h in false≢true bad

letter_no_minus : (b : ℕ) → is_ascii_lowercase b ≡ true → b ≡ 45 → ⊥
letter_no_minus b h e = let bad : is_ascii_lowercase 45 ≡ true = rw e at h in false≢true bad

-- ---- a word in front, with its gap apart

pub front_of : (s : List ℕ) (w : Word) (g : Gap) (rest : List ℕ) → Begins s w g rest → s ≡ written_word w ++ gap_byte g ∷ rest
front_of s w g rest b = b.front ∙ append_assoc (written_word w) (gap_byte g ∷ []) rest

pub begins_of : (s : List ℕ) (w : Word) (g : Gap) (rest : List ℕ) → IsWord w → s ≡ written_word w ++ gap_byte g ∷ rest → Begins s w g rest
begins_of s w g rest h e = record { word = h; front = e ∙ sym (append_assoc (written_word w) (gap_byte g ∷ []) rest) }

-- ---- the kinds

-- decimal digits begin with a digit
digit_first : (n : ℕ) (x : ℕ) (s t : List ℕ) → n ≤ size_limit → x ∷ s ≡ decimal n ++ t → is_ascii_digit x ≡ true
digit_first n x s t h e = first_passes is_ascii_digit (decimal n) x s t (digits_of_decimal n h) (decimal_some n h) e

no_letter : (x : ℕ) {P : Type 0} → is_ascii_lowercase x ≡ true → is_ascii_digit x ≡ true → P
no_letter x h d = absurd (false≢true (sym (digit_no_letter x d) ∙ h))

text_first : (bytes : List ℕ) (x : ℕ) (s t : List ℕ) → length bytes ≤ size_limit → x ∷ s ≡ (decimal (length bytes) ++ 58 ∷ bytes) ++ t → is_ascii_digit x ≡ true
text_first bytes x s t h e = digit_first (length bytes) x s (58 ∷ (bytes ++ t)) h (e ∙ append_assoc (decimal (length bytes)) (58 ∷ bytes) t)

pub record NameBegins (s : List ℕ) (w : Word) (g : Gap) (rest : List ℕ) : Type 0 where
  pub letters : List ℕ
  pub is : w ≡ name letters
  pub proper : IsName letters
  pub front : s ≡ letters ++ gap_byte g ∷ rest

pub name_begins : (x : ℕ) (s : List ℕ) (w : Word) (g : Gap) (rest : List ℕ) → is_ascii_lowercase x ≡ true → Begins (x ∷ s) w g rest → NameBegins (x ∷ s) w g rest
name_begins x s (name letters) g rest h b = record { letters = letters; is = refl; proper = b.word; front = front_of (x ∷ s) (name letters) g rest b }
name_begins x s (number (pos n)) g rest h b = no_letter x h (digit_first n x s (gap_byte g ∷ rest) b.word (front_of (x ∷ s) (number (pos n)) g rest b))
name_begins x s (number (negsuc n)) g rest h b =
    let e = front_of (x ∷ s) (number (negsuc n)) g rest b in
    let minus : x ≡ 45 = cc in
    absurd (letter_no_minus x h minus)
name_begins x s (text bytes) g rest h b = no_letter x h (text_first bytes x s (gap_byte g ∷ rest) b.word (front_of (x ∷ s) (text bytes) g rest b))

pub data DigitBegins (s : List ℕ) (g : Gap) (rest : List ℕ) : Word → Type 0 where
  a_number : (n : ℕ) → n ≤ size_limit → s ≡ decimal n ++ gap_byte g ∷ rest → DigitBegins s g rest (number (pos n))
  a_text : (bytes : List ℕ) → length bytes ≤ size_limit → s ≡ decimal (length bytes) ++ 58 ∷ (bytes ++ gap_byte g ∷ rest) → DigitBegins s g rest (text bytes)

pub digit_begins : (x : ℕ) (s : List ℕ) (w : Word) (g : Gap) (rest : List ℕ) → is_ascii_digit x ≡ true → Begins (x ∷ s) w g rest → DigitBegins (x ∷ s) g rest w
digit_begins x s (name letters) g rest h b = no_letter x (first_passes is_ascii_lowercase letters x s (gap_byte g ∷ rest) b.word.letters b.word.some (front_of (x ∷ s) (name letters) g rest b)) h
digit_begins x s (number (pos n)) g rest h b = a_number n b.word (front_of (x ∷ s) (number (pos n)) g rest b)
digit_begins x s (number (negsuc n)) g rest h b =
    let e = front_of (x ∷ s) (number (negsuc n)) g rest b in
    let minus : x ≡ 45 = cc in
    absurd (digit_no_minus x h minus)
digit_begins x s (text bytes) g rest h b = a_text bytes b.word (front_of (x ∷ s) (text bytes) g rest b ∙ append_assoc (decimal (length bytes)) (58 ∷ bytes) (gap_byte g ∷ rest))

pub record MinusBegins (s : List ℕ) (w : Word) (g : Gap) (rest : List ℕ) : Type 0 where
  pub size : ℕ
  pub is : w ≡ number (negsuc size)
  pub small : suc size ≤ size_limit
  pub front : s ≡ decimal (suc size) ++ gap_byte g ∷ rest

pub minus_begins : (s : List ℕ) (w : Word) (g : Gap) (rest : List ℕ) → Begins (45 ∷ s) w g rest → MinusBegins s w g rest
minus_begins s (name letters) g rest b = absurd (letter_no_minus 45 (first_passes is_ascii_lowercase letters 45 s (gap_byte g ∷ rest) b.word.letters b.word.some (front_of (45 ∷ s) (name letters) g rest b)) refl)
minus_begins s (number (pos n)) g rest b = absurd (digit_no_minus 45 (digit_first n 45 s (gap_byte g ∷ rest) b.word (front_of (45 ∷ s) (number (pos n)) g rest b)) refl)
minus_begins s (number (negsuc n)) g rest b =
    let e = front_of (45 ∷ s) (number (negsuc n)) g rest b in
    let tails : s ≡ decimal (suc n) ++ gap_byte g ∷ rest = cc in
    record { size = n; is = refl; small = b.word; front = tails }
minus_begins s (text bytes) g rest b = absurd (digit_no_minus 45 (text_first bytes 45 s (gap_byte g ∷ rest) b.word (front_of (45 ∷ s) (text bytes) g rest b)) refl)

-- no word begins with another byte
pub none_begins : (x : ℕ) (s : List ℕ) (w : Word) (g : Gap) (rest : List ℕ) → is_ascii_lowercase x ≡ false → is_ascii_digit x ≡ false → (x ≡ 45 → ⊥) → Begins (x ∷ s) w g rest → ⊥
none_begins x s (name letters) g rest l d m b = false≢true (sym l ∙ first_passes is_ascii_lowercase letters x s (gap_byte g ∷ rest) b.word.letters b.word.some (front_of (x ∷ s) (name letters) g rest b))
none_begins x s (number (pos n)) g rest l d m b = false≢true (sym d ∙ digit_first n x s (gap_byte g ∷ rest) b.word (front_of (x ∷ s) (number (pos n)) g rest b))
none_begins x s (number (negsuc n)) g rest l d m b =
    let e = front_of (x ∷ s) (number (negsuc n)) g rest b in
    let minus : x ≡ 45 = cc in
    m minus
none_begins x s (text bytes) g rest l d m b = false≢true (sym d ∙ text_first bytes x s (gap_byte g ∷ rest) b.word (front_of (x ∷ s) (text bytes) g rest b))

-- no word begins no bytes
pub none_at_end : (w : Word) (g : Gap) (rest : List ℕ) → Begins [] w g rest → ⊥
none_at_end w g rest b = absurd (omega (arith, ap length (front_of [] w g rest b), length-append (written_word w) (gap_byte g ∷ rest)))
