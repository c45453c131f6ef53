-- The laws of words.
use Rattle.std.proofs.Common.{◌≡◌, ◌≢◌, ◌≤◌, ℕ, zero, suc, true, false, ℤ, pos, negsuc, List, [], ◌∷◌, ◌++◌, ◌↔◌, length, length-append, get_or, drop, Option, Some, None, Result, Ok, Err, IsOkAnd, IsSomeAnd, refl, sym, ap, ◌∙◌, arith, add-one, append_assoc}
use Rattle.std.specs.Char.{is_ascii_digit, is_ascii_lowercase}
use Rattle.std.specs.Prelude.{slice_index}
use Rattle.std.specs.Fmt.{decimal}
use Rattle.std.proofs.lemmas.Bool.{false≢true}
use Rattle.std.proofs.lemmas.List.{append-nil}
use Rattle.pawk_words.specs.declared.word.Gap.{Gap}
use Rattle.pawk_words.specs.Words.{Word, name, number, text, shown, IsWord, AreWords, gap_byte, written_word, written, written_all, size_limit, Begins}
use Rattle.pawk_words.specs.declared.read.ReadWord.{ReadWord}
use Rattle.pawk_words.specs.declared.read.Damage.{Damage}
use Rattle.pawk_words.specs.Reading.{Reads}
use Rattle.pawk_words.specs.Spelling.{Spells, digits_value}
use Rattle.pawk_words.proofs.Numerals.{digits_of_decimal, decimal_some, decimal_first, value_of_decimal, numeral_of, numeral_is}
use Rattle.pawk_words.proofs.Fronts.{same_runs, first_passes}
use Rattle.pawk_words.proofs.FirstBytes.{gap_no_letter, gap_no_digit, gap_no_colon, same_gap, front_of, NameBegins, name_begins, DigitBegins, a_number, a_text, digit_begins, MinusBegins, minus_begins, none_at_end}

-- ---- one word at most

pub record IsSame (w v : Word) (g h : Gap) (rest others : List ℕ) : Type 0 where
  pub word : w ≡ v
  pub gap : g ≡ h
  pub left : rest ≡ others

-- a number within the limit is told by its decimal digits
same_number : (n m : ℕ) → n ≤ size_limit → m ≤ size_limit → decimal n ≡ decimal m → n ≡ m
same_number n m h k e = sym (value_of_decimal n h) ∙ ap digits_value e ∙ value_of_decimal m k

-- decimal digits are told from what follows, which begins with no digit
same_decimals : (n m c d : ℕ) (r q : List ℕ) → n ≤ size_limit → m ≤ size_limit → is_ascii_digit c ≡ false → is_ascii_digit d ≡ false → decimal n ++ c ∷ r ≡ decimal m ++ d ∷ q → (n ≡ m) × (c ≡ d) × (r ≡ q)
same_decimals n m c d r q h k e f same =
    let runs = same_runs is_ascii_digit (decimal n) (decimal m) c d r q (digits_of_decimal n h) (digits_of_decimal m k) e f same in
    (same_number n m h k runs.0, runs.1, runs.2)

-- bytes of one length are told from what follows
same_bytes : (xs ys r q : List ℕ) → length xs ≡ length ys → xs ++ r ≡ ys ++ q → (xs ≡ ys) × (r ≡ q)
same_bytes [] [] r q l e = (refl, e)
same_bytes [] (y ∷ ys) r q l e = absurd (omega arith)
same_bytes (x ∷ xs) [] r q l e = absurd (omega arith)
same_bytes (x ∷ xs) (y ∷ ys) r q l e =
    let heads : x ≡ y = cc in
    let tails : xs ++ r ≡ ys ++ q = cc in
    let again = same_bytes xs ys r q (omega arith) tails in
    let fronts : xs ≡ ys = again.0 in
    let both : x ∷ xs ≡ y ∷ ys = cc in
    (both, again.1)

colon_no_digit : is_ascii_digit 58 ≡ false
colon_no_digit = refl

from_digit : (s : List ℕ) (w v : Word) (g h : Gap) (rest others : List ℕ) → DigitBegins s g rest w → DigitBegins s h others v → IsSame w v g h rest others
from_digit s w v g h rest others (a_number n k e) (a_number m l f) =
    let same = same_decimals n m (gap_byte g) (gap_byte h) rest others k l (gap_no_digit g) (gap_no_digit h) (sym e ∙ f) in
    record { word = ap (λ i. number (pos i)) same.0; gap = same_gap g h same.1; left = same.2 }
from_digit s w v g h rest others (a_number n k e) (a_text ys l f) =
    absurd (gap_no_colon g (same_decimals n (length ys) (gap_byte g) 58 rest (ys ++ gap_byte h ∷ others) k l (gap_no_digit g) colon_no_digit (sym e ∙ f)).1)
from_digit s w v g h rest others (a_text xs k e) (a_number m l f) =
    absurd (gap_no_colon h (same_decimals m (length xs) (gap_byte h) 58 others (xs ++ gap_byte g ∷ rest) l k (gap_no_digit h) colon_no_digit (sym f ∙ e)).1)
from_digit s w v g h rest others (a_text xs k e) (a_text ys l f) =
    let same = same_decimals (length xs) (length ys) 58 58 (xs ++ gap_byte g ∷ rest) (ys ++ gap_byte h ∷ others) k l colon_no_digit colon_no_digit (sym e ∙ f) in
    let bytes = same_bytes xs ys (gap_byte g ∷ rest) (gap_byte h ∷ others) same.0 same.2 in
    let after : gap_byte g ∷ rest ≡ gap_byte h ∷ others = bytes.1 in
    let gaps : gap_byte g ≡ gap_byte h = cc in
    let left : rest ≡ others = cc in
    record { word = ap text bytes.0; gap = same_gap g h gaps; left = left }

from_letter : (s : List ℕ) (w v : Word) (g h : Gap) (rest others : List ℕ) → NameBegins s w g rest → NameBegins s v h others → IsSame w v g h rest others
from_letter s w v g h rest others a b =
    let same = same_runs is_ascii_lowercase a.letters b.letters (gap_byte g) (gap_byte h) rest others a.proper.letters b.proper.letters (gap_no_letter g) (gap_no_letter h) (sym a.front ∙ b.front) in
    record { word = a.is ∙ ap name same.0 ∙ sym b.is; gap = same_gap g h same.1; left = same.2 }

from_minus : (s : List ℕ) (w v : Word) (g h : Gap) (rest others : List ℕ) → MinusBegins s w g rest → MinusBegins s v h others → IsSame w v g h rest others
from_minus s w v g h rest others a b =
    let same = same_decimals (suc a.size) (suc b.size) (gap_byte g) (gap_byte h) rest others a.small b.small (gap_no_digit g) (gap_no_digit h) (sym a.front ∙ b.front) in
    let sizes : a.size ≡ b.size = omega (arith, same.0) in
    record { word = a.is ∙ ap (λ i. number (negsuc i)) sizes ∙ sym b.is; gap = same_gap g h same.1; left = same.2 }

-- the first byte of each kind

first_of_name : (x : ℕ) (s letters : List ℕ) (g : Gap) (rest : List ℕ) → Begins (x ∷ s) (name letters) g rest → is_ascii_lowercase x ≡ true
first_of_name x s letters g rest b = first_passes is_ascii_lowercase letters x s (gap_byte g ∷ rest) b.word.letters b.word.some (front_of (x ∷ s) (name letters) g rest b)

first_of_number : (x n : ℕ) (s : List ℕ) (g : Gap) (rest : List ℕ) → Begins (x ∷ s) (number (pos n)) g rest → is_ascii_digit x ≡ true
first_of_number x n s g rest b = first_passes is_ascii_digit (decimal n) x s (gap_byte g ∷ rest) (digits_of_decimal n b.word) (decimal_some n b.word) (front_of (x ∷ s) (number (pos n)) g rest b)

first_of_text : (x : ℕ) (s bytes : List ℕ) (g : Gap) (rest : List ℕ) → Begins (x ∷ s) (text bytes) g rest → is_ascii_digit x ≡ true
first_of_text x s bytes g rest b =
    first_passes is_ascii_digit (decimal (length bytes)) x s (58 ∷ (bytes ++ gap_byte g ∷ rest)) (digits_of_decimal (length bytes) b.word) (decimal_some (length bytes) b.word)
    (front_of (x ∷ s) (text bytes) g rest b ∙ append_assoc (decimal (length bytes)) (58 ∷ bytes) (gap_byte g ∷ rest))

first_of_minus : (x n : ℕ) (s : List ℕ) (g : Gap) (rest : List ℕ) → Begins (x ∷ s) (number (negsuc n)) g rest → x ≡ 45
first_of_minus x n s g rest b = let e = front_of (x ∷ s) (number (negsuc n)) g rest b in cc

both_digit : (x : ℕ) (s : List ℕ) (w v : Word) (g h : Gap) (rest others : List ℕ) → is_ascii_digit x ≡ true → Begins (x ∷ s) w g rest → Begins (x ∷ s) v h others → IsSame w v g h rest others
both_digit x s w v g h rest others d a b = from_digit (x ∷ s) w v g h rest others (digit_begins x s w g rest d a) (digit_begins x s v h others d b)

both_minus : (x : ℕ) (s : List ℕ) (w v : Word) (g h : Gap) (rest others : List ℕ) → x ≡ 45 → Begins (x ∷ s) w g rest → Begins (x ∷ s) v h others → IsSame w v g h rest others
both_minus x s w v g h rest others e a b =
    from_minus s w v g h rest others (minus_begins s w g rest (rw e at a)) (minus_begins s v h others (rw e at b))

pub begins_same : (s : List ℕ) (w v : Word) (g h : Gap) (rest others : List ℕ) → Begins s w g rest → Begins s v h others → IsSame w v g h rest others
begins_same [] w v g h rest others a b = absurd (none_at_end w g rest a)
begins_same (x ∷ s) (name letters) v g h rest others a b =
    let l = first_of_name x s letters g rest a in
    from_letter (x ∷ s) (name letters) v g h rest others (name_begins x s (name letters) g rest l a) (name_begins x s v h others l b)
begins_same (x ∷ s) (number (pos n)) v g h rest others a b = both_digit x s (number (pos n)) v g h rest others (first_of_number x n s g rest a) a b
begins_same (x ∷ s) (number (negsuc n)) v g h rest others a b = both_minus x s (number (negsuc n)) v g h rest others (first_of_minus x n s g rest a) a b
begins_same (x ∷ s) (text bytes) v g h rest others a b = both_digit x s (text bytes) v g h rest others (first_of_text x s bytes g rest a) a b

pub written_same : (w v : Word) (g h : Gap) (rest others : List ℕ) → IsWord w → IsWord v → written w g ++ rest ≡ written v h ++ others → IsSame w v g h rest others
written_same w v g h rest others k l e =
    let a : Begins (written w g ++ rest) w g rest = record { word = k; front = refl } in
    let b : Begins (written w g ++ rest) v h others = record { word = l; front = e } in
    begins_same (written w g ++ rest) w v g h rest others a b

-- what was read is what is in front
pub reads_again : (s : List ℕ) (r : Result (Option ReadWord) Damage) → Reads s r → (w : Word) (g : Gap) (rest : List ℕ) → Begins s w g rest → IsOkAnd r (λ a. IsSomeAnd a (λ f. (shown f.word ≡ w) × (f.gap ≡ g) × (drop f.length s ≡ rest)))
reads_again s (Ok (Some f)) k w g rest b =
    let same = begins_same s (shown f.word) w f.gap g (drop f.length s) rest k.begins b in
    (same.word, same.gap, same.left)
reads_again s (Ok None) k w g rest b = absurd (k.none w g rest b)
reads_again s (Err e) k w g rest b = absurd (k [] w g rest (rw (append-nil s) b))

-- ---- one list of words at most

some_written : (w : Word) (g : Gap) (rest : List ℕ) → written w g ++ rest ≡ [] → ⊥
some_written w g rest e =
    omega (arith, ap length e, length-append (written w g) rest, length-append (written_word w) (gap_byte g ∷ []))

pub all_same : (ws vs : List (Word × Gap)) → AreWords ws → AreWords vs → written_all ws ≡ written_all vs → ws ≡ vs
all_same [] [] h k e = refl
all_same [] (y ∷ ys) h k e = absurd (some_written y.0 y.1 (written_all ys) (sym e))
all_same (x ∷ xs) [] h k e = absurd (some_written x.0 x.1 (written_all xs) e)
all_same (x ∷ xs) (y ∷ ys) h k e =
    let same = written_same x.0 y.0 x.1 y.1 (written_all xs) (written_all ys) h.0 k.0 e in
    let again = all_same xs ys h.1 k.1 same.left in
    let pairs : ◌≡◌ {A = Word × Gap} (x.0, x.1) (y.0, y.1) = rw (same.word, same.gap) refl in
    let first : x ≡ y = pairs in
    rw (first, again) refl

-- ---- the notation in plain terms

pub spelled : (w : Word) (s : List ℕ) → IsWord w → Spells s w ↔ (s ≡ written_word w)
spelled (name letters) s h = (λ e. e, λ e. e)
spelled (number (pos n)) s h = (λ k. numeral_is s n h k, λ e. rw e (numeral_of n h))
spelled (number (negsuc n)) s h = (
  λ k. k.1 ∙ ap (λ ds. 45 ∷ ds) (numeral_is k.0 (suc n) h (rw add-one at k.2)),
  λ e. (decimal (suc n), e, rw add-one (numeral_of (suc n) h)),
)
spelled (text bytes) s h = (
  λ k. k.1 ∙ ap (λ ds. ds ++ 58 ∷ bytes) (numeral_is k.0 (length bytes) h k.2),
  λ e. (decimal (length bytes), e, numeral_of (length bytes) h),
)

pub zero_alone : (z : ℤ) → IsWord (number z) → slice_index (written_word (number z)) 0 ≡ 48 → z ≡ pos 0
zero_alone (pos zero) h e = refl
zero_alone (pos (suc n)) h e = absurd (omega (arith, decimal_first (suc n) (omega arith) h))
zero_alone (negsuc n) h e = absurd (omega arith)

pub no_minus_zero : (z : ℤ) (bytes : List ℕ) → IsWord (number z) → written_word (number z) ≢ 45 ∷ 48 ∷ bytes
no_minus_zero (pos n) bytes h e = false≢true (first_passes is_ascii_digit (decimal n) 45 (48 ∷ bytes) [] (digits_of_decimal n h) (decimal_some n h) (sym e ∙ sym (append-nil (decimal n))))
no_minus_zero (negsuc n) bytes h e =
    let tails : decimal (suc n) ≡ 48 ∷ bytes = cc in
    let first : get_or (decimal (suc n)) 0 0 ≡ 48 = ap (λ l. get_or l 0 0) tails in
    omega (arith, decimal_first (suc n) (omega arith) h)
