-- What the parts of the reader find is what is in front of the bytes.
use Rattle.std.proofs.Common.{◌≡◌, ◌≤◌, ◌<◌, ℕ, zero, suc, ◌+◌, ◌-◌, false, pos, negsuc, neg_ℤ, List, [], ◌∷◌, ◌++◌, length, length-append, length-drop, get_or, take, drop, replicate, Option, Some, None, Result, Ok, Err, refl, sym, ap, ◌∙◌, arith, append_assoc}
use Rattle.std.specs.Char.{is_ascii_digit, is_ascii_lowercase}
use Rattle.std.specs.Prelude.{slice_index}
use Rattle.std.specs.Fmt.{decimal}
use Rattle.std.specs.List.{prefix_len}
use Rattle.std.proofs.lemmas.List.{append-nil, length-replicate, take-append-drop, take_all, drop_at, drop-drop, length-take-le, get_or-take, get_or-drop, get_or_append_left, get_or_at}
use Rattle.std.proofs.lemmas.Fmt.{decimal_digit}
use Rattle.pawk_words.specs.declared.word.Word.{Word as Lent}
use Rattle.pawk_words.specs.declared.word.Gap.{Gap}
use Rattle.pawk_words.specs.declared.word.Gap.TheVariants.{Space}
use Rattle.pawk_words.specs.declared.read.ReadWord.{ReadWord}
use Rattle.pawk_words.specs.declared.read.Damage.{Damage}
use Rattle.pawk_words.specs.Words.{Word, name, number, text, shown, IsName, IsWord, AllAre, gap_byte, written_word, size_limit, name_limit, Begins}
use Rattle.pawk_words.specs.Spelling.{digits_value}
use Rattle.pawk_words.specs.Reading.{IsInFront, IsCutShort, IsDamaged, Reads, IsNoDecimalFront, IsDecimalFront, ReadsGap, ReadsText}
use Rattle.pawk_words.proofs.Numerals.{decimal_of_digits, digits_of_decimal, decimal_some, decimal_first, value_of_decimal}
use Rattle.pawk_words.proofs.Fronts.{front_grows, front_passes, run_front, first_of_front, same_front, no_end, split_here}
use Rattle.pawk_words.proofs.FirstBytes.{gap_no_letter, gap_no_digit, gap_no_colon, begins_of, NameBegins, name_begins, DigitBegins, a_number, a_text, digit_begins, minus_begins, none_at_end, none_begins}

-- ---- a word that is in front

-- the word and its gap, one after the other, are in front
pub in_front : (s : List ℕ) (w : Word) (g : Gap) (rest : List ℕ) (count : ℕ) → IsWord w → s ≡ written_word w ++ gap_byte g ∷ rest → count ≡ length (written_word w) + 1 → IsInFront s w g count
in_front s w g rest count h e is =
    let split : s ≡ (written_word w ++ gap_byte g ∷ []) ++ rest = e ∙ sym (append_assoc (written_word w) (gap_byte g ∷ []) rest) in
    let long : length (written_word w ++ gap_byte g ∷ []) ≡ count = length-append (written_word w) (gap_byte g ∷ []) ∙ sym is in
    let left : drop count s ≡ rest = ap (drop count) split ∙ drop_at (written_word w ++ gap_byte g ∷ []) rest count long in
    let size = ap length split in
    record {
      some = omega arith;
      within = omega (arith, size, long, length-append (written_word w ++ gap_byte g ∷ []) rest);
      begins = rw left (begins_of s w g rest h e);
    }

-- the bytes of the word end before its gap
at_place : (s : List ℕ) (n : ℕ) (w : Word) (g : Gap) → n < length s → IsWord w → written_word w ≡ take n s → get_or s n 0 ≡ gap_byte g → IsInFront s w g (n + 1)
at_place s n w g l h e f =
    let whole : s ≡ written_word w ++ gap_byte g ∷ drop (n + 1) s = rw (e, ← f) (split_here s n l) in
    let long : length (written_word w) ≡ n = ap length e ∙ length-take-le n s (omega arith) in
    in_front s w g (drop (n + 1) s) (n + 1) h whole (omega (arith, long))

-- the gap is in front of the rest
gap_place : (s : List ℕ) (n b : ℕ) → n ≤ length s → 0 < length (drop n s) → slice_index (drop n s) 0 ≡ b → (n < length s) × (get_or s n 0 ≡ b)
gap_place s n b within some e =
    let here : get_or (drop n s) 0 0 ≡ get_or s (n + 0) 0 = get_or-drop n s 0 0 in
    let place : n + 0 ≡ n = omega arith in
    (omega (arith, length-drop n s), sym (ap (λ k. get_or s k 0) place) ∙ sym here ∙ e)

no_rest : (s : List ℕ) (n : ℕ) → n ≤ length s → drop n s ≡ [] → n ≡ length s
no_rest s n within e = omega (arith, length-drop n s, ap length e)

-- a word that the bytes end with lacks only its gap
pub lacks_gap : (s : List ℕ) (w : Word) → ((v : Word) (g : Gap) (rest : List ℕ) → ¬ Begins s v g rest) → IsWord w → written_word w ≡ s → IsCutShort s
lacks_gap s w none h e = record {
  none = none;
  more = 32 ∷ [];
  word = w;
  gap = Space;
  rest = [];
  begins = begins_of (s ++ 32 ∷ []) w Space [] h (rw e refl);
}

-- ---- names

letters_here : (s more : List ℕ) (w : Word) (g : Gap) (rest : List ℕ) → 0 < prefix_len is_ascii_lowercase s → Begins (s ++ more) w g rest → NameBegins (s ++ more) w g rest
letters_here [] more w g rest some b = absurd (omega arith)
letters_here (x ∷ s) more w g rest some b = name_begins x (s ++ more) w g rest (first_of_front is_ascii_lowercase x s some) b

pub name_long : (s : List ℕ) → name_limit < prefix_len is_ascii_lowercase s → IsDamaged s
name_long s long more w g rest b =
    let k = letters_here s more w g rest (omega arith) b in
    let run = run_front is_ascii_lowercase k.letters (gap_byte g) rest k.proper.letters (gap_no_letter g) in
    let same = ap (prefix_len is_ascii_lowercase) k.front in
    let grows = front_grows is_ascii_lowercase s more in
    let short = k.proper.short in
    omega (arith, run, same, grows, short)

without_more : (s : List ℕ) (w : Word) (g : Gap) (rest : List ℕ) → Begins s w g rest → Begins (s ++ []) w g rest
without_more s w g rest b = rw (append-nil s) b

pub name_read : (s : List ℕ) (n : ℕ) (w : Lent) (r : Result (Option ReadWord) Damage) → n ≡ prefix_len is_ascii_lowercase s → n ≤ length s → 0 < n → n ≤ name_limit → shown w ≡ name (take n s) → ReadsGap w n (drop n s) r → Reads s r
name_read s n w (Ok (Some found)) is within some short e k =
    let place = gap_place s n (gap_byte found.gap) within k.2 k.3 in
    let passes : AllAre is_ascii_lowercase (take n s) = rw is (front_passes is_ascii_lowercase s) in
    let long = length-take-le n s within in
    let proper : IsName (take n s) = record { letters = passes; some = omega (arith, long); short = omega (arith, long) } in
    rw (k.0, k.1, e) (at_place s n (name (take n s)) found.gap place.0 proper refl place.1)
name_read s n w (Ok None) is within some short e k =
    let end = no_rest s n within k in
    let whole : take n s ≡ s = take_all n s (omega arith) in
    let passes : AllAre is_ascii_lowercase (take n s) = rw is (front_passes is_ascii_lowercase s) in
    let long = length-take-le n s within in
    let proper : IsName (take n s) = record { letters = passes; some = omega (arith, long); short = omega (arith, long) } in
    let none : (v : Word) (g : Gap) (rest : List ℕ) → ¬ Begins s v g rest = λ v g rest b.
    let f = letters_here s [] v g rest (omega arith) (without_more s v g rest b) in
    no_end is_ascii_lowercase s f.letters (gap_byte g) rest (omega arith) f.proper.letters (gap_no_letter g) (sym (append-nil s) ∙ f.front) in
    lacks_gap s (name (take n s)) none proper whole
name_read s n w (Err damage) is within some short e k = λ more v g rest b.
    let place = gap_place s n (slice_index (drop n s) 0) within k.0 refl in
    let f = letters_here s more v g rest (omega arith) b in
    let same = same_front is_ascii_lowercase s more n f.letters (gap_byte g) rest is place.0 f.proper.letters (gap_no_letter g) f.front in
    k.1 g (sym place.1 ∙ same.1)

-- ---- numbers and texts

digits_here : (s more : List ℕ) (w : Word) (g : Gap) (rest : List ℕ) → 0 < prefix_len is_ascii_digit s → Begins (s ++ more) w g rest → DigitBegins (s ++ more) g rest w
digits_here [] more w g rest some b = absurd (omega arith)
digits_here (x ∷ s) more w g rest some b = digit_begins x (s ++ more) w g rest (first_of_front is_ascii_digit x s some) b

-- the digits in front are those that `decimal` writes
pub decimal_here : (s : List ℕ) (n v : ℕ) → IsDecimalFront s n v → 0 < n → decimal v ≡ take n s
decimal_here s n v f some =
    let passes : AllAre is_ascii_digit (take n s) = rw f.longest (front_passes is_ascii_digit s) in
    let long = length-take-le n s f.within in
    let lead : get_or (take n s) 0 0 ≡ 48 → length (take n s) ≡ 1 = λ z. long ∙ f.lead (sym (get_or-take n s 0 0 some) ∙ z) in
    rw f.value (decimal_of_digits (take n s) passes (omega (arith, long)) lead (rw (← f.value) f.small))

colon_no_digit : is_ascii_digit 58 ≡ false
colon_no_digit = refl

not_decimal : (s more : List ℕ) (w : Word) (g : Gap) (rest : List ℕ) → IsNoDecimalFront s → DigitBegins (s ++ more) g rest w → ⊥
not_decimal s more w g rest h (a_number n k e) = h more n (gap_byte g) rest k (gap_no_digit g) e
not_decimal s more w g rest h (a_text bytes k e) = h more (length bytes) 58 (bytes ++ gap_byte g ∷ rest) k colon_no_digit e

pub digits_damaged : (s : List ℕ) → 0 < prefix_len is_ascii_digit s → IsNoDecimalFront s → IsDamaged s
digits_damaged s some h more w g rest b = not_decimal s more w g rest h (digits_here s more w g rest some b)

not_at_end : (s : List ℕ) (w : Word) (g : Gap) (rest : List ℕ) → prefix_len is_ascii_digit s ≡ length s → DigitBegins (s ++ []) g rest w → ⊥
not_at_end s w g rest all (a_number n k e) = no_end is_ascii_digit s (decimal n) (gap_byte g) rest all (digits_of_decimal n k) (gap_no_digit g) (sym (append-nil s) ∙ e)
not_at_end s w g rest all (a_text bytes k e) = no_end is_ascii_digit s (decimal (length bytes)) 58 (bytes ++ gap_byte g ∷ rest) all (digits_of_decimal (length bytes) k) colon_no_digit (sym (append-nil s) ∙ e)

-- after the digits comes neither a gap nor a colon
not_there : (s more : List ℕ) (n : ℕ) (w : Word) (g : Gap) (rest : List ℕ) → n ≡ prefix_len is_ascii_digit s → n < length s → (get_or s n 0 ≡ 58 → ⊥) → ((h : Gap) → get_or s n 0 ≡ gap_byte h → ⊥) → DigitBegins (s ++ more) g rest w → ⊥
not_there s more n w g rest is l colon gaps (a_number m k e) = gaps g (same_front is_ascii_digit s more n (decimal m) (gap_byte g) rest is l (digits_of_decimal m k) (gap_no_digit g) e).1
not_there s more n w g rest is l colon gaps (a_text bytes k e) = colon (same_front is_ascii_digit s more n (decimal (length bytes)) 58 (bytes ++ gap_byte g ∷ rest) is l (digits_of_decimal (length bytes) k) colon_no_digit e).1

pub number_read : (s : List ℕ) (n v : ℕ) (w : Lent) (r : Result (Option ReadWord) Damage) → IsDecimalFront s n v → 0 < n → (get_or s n 0 ≡ 58 → ⊥) → shown w ≡ number (pos v) → ReadsGap w n (drop n s) r → Reads s r
number_read s n v w (Ok (Some found)) f some colon e k =
    let place = gap_place s n (gap_byte found.gap) f.within k.2 k.3 in
    rw (k.0, k.1, e) (at_place s n (number (pos v)) found.gap place.0 f.small (decimal_here s n v f some) place.1)
number_read s n v w (Ok None) f some colon e k =
    let end = no_rest s n f.within k in
    let all : prefix_len is_ascii_digit s ≡ length s = sym f.longest ∙ end in
    let first : 0 < prefix_len is_ascii_digit s = omega (arith, f.longest) in
    let none : (u : Word) (g : Gap) (rest : List ℕ) → ¬ Begins s u g rest = λ u g rest b.
    not_at_end s u g rest all (digits_here s [] u g rest first (without_more s u g rest b)) in
    lacks_gap s (number (pos v)) none f.small (decimal_here s n v f some ∙ take_all n s (omega arith))
number_read s n v w (Err damage) f some colon e k = λ more u g rest b.
    let place = gap_place s n (slice_index (drop n s) 0) f.within k.0 refl in
    let first : 0 < prefix_len is_ascii_digit s = omega (arith, f.longest) in
    not_there s more n u g rest f.longest place.0 colon (λ h z. k.1 h (sym place.1 ∙ z)) (digits_here s more u g rest first b)

-- a text in front has as many bytes as the digits say
same_count : (s : List ℕ) (n v : ℕ) (bytes : List ℕ) → IsDecimalFront s n v → 0 < n → length bytes ≤ size_limit → take n s ≡ decimal (length bytes) → length bytes ≡ v
same_count s n v bytes f some k e =
    sym (value_of_decimal (length bytes) k) ∙ ap digits_value (sym e ∙ sym (decimal_here s n v f some)) ∙ value_of_decimal v f.small

-- what a word after the digits and a colon is
pub record TextBegins (t : List ℕ) (v : ℕ) (g : Gap) (rest : List ℕ) : Type 0 where
  pub bytes : List ℕ
  pub count : length bytes ≡ v
  pub front : t ≡ bytes ++ gap_byte g ∷ rest

after_colon : (s more t : List ℕ) (n v : ℕ) (w : Word) (g : Gap) (rest : List ℕ) → IsDecimalFront s n v → 0 < n → drop n s ≡ 58 ∷ t → DigitBegins (s ++ more) g rest w → TextBegins (t ++ more) v g rest
after_colon s more t n v w g rest f some e (a_number m k h) =
    let place = gap_place s n 58 f.within (rw e (omega arith)) (rw e refl) in
    let same = same_front is_ascii_digit s more n (decimal m) (gap_byte g) rest f.longest place.0 (digits_of_decimal m k) (gap_no_digit g) h in
    absurd (gap_no_colon g (sym same.1 ∙ place.1))
after_colon s more t n v w g rest f some e (a_text bytes k h) =
    let place = gap_place s n 58 f.within (rw e (omega arith)) (rw e refl) in
    let same = same_front is_ascii_digit s more n (decimal (length bytes)) 58 (bytes ++ gap_byte g ∷ rest) f.longest place.0 (digits_of_decimal (length bytes) k) colon_no_digit h in
    let left : drop (n + 1) s ≡ t = sym (drop-drop 1 n s) ∙ ap (drop 1) e in
    record { bytes = bytes; count = same_count s n v bytes f some k same.0; front = ap (λ l. l ++ more) (sym left) ∙ same.2 }

text_begins : (s more t : List ℕ) (n v : ℕ) (w : Word) (g : Gap) (rest : List ℕ) → IsDecimalFront s n v → 0 < n → drop n s ≡ 58 ∷ t → Begins (s ++ more) w g rest → TextBegins (t ++ more) v g rest
text_begins s more t n v w g rest f some e b =
    let first : 0 < prefix_len is_ascii_digit s = omega (arith, f.longest) in
    after_colon s more t n v w g rest f some e (digits_here s more w g rest first b)

-- the digits, the colon and the rest
whole_text : (s t : List ℕ) (n v : ℕ) → IsDecimalFront s n v → 0 < n → drop n s ≡ 58 ∷ t → s ≡ decimal v ++ 58 ∷ t
whole_text s t n v f some e = sym (take-append-drop n s) ∙ rw (decimal_here s n v f some, e) refl

-- the text of the first bytes after the colon, before its gap
text_in_front : (s t : List ℕ) (n v : ℕ) (g : Gap) → IsDecimalFront s n v → 0 < n → drop n s ≡ 58 ∷ t → v < length t → get_or t v 0 ≡ gap_byte g → IsInFront s (text (take v t)) g (n + 1 + v + 1)
text_in_front s t n v g f some e l h =
    let count : length (take v t) ≡ v = length-take-le v t (omega arith) in
    let digits : length (decimal v) ≡ n = ap length (decimal_here s n v f some) ∙ length-take-le n s f.within in
    let rest : t ≡ take v t ++ gap_byte g ∷ drop (v + 1) t = rw (← h) (split_here t v l) in
    let split : s ≡ decimal v ++ 58 ∷ (take v t ++ gap_byte g ∷ drop (v + 1) t) = whole_text s t n v f some e ∙ ap (λ u. decimal v ++ 58 ∷ u) rest in
    let joined : s ≡ (decimal v ++ 58 ∷ take v t) ++ gap_byte g ∷ drop (v + 1) t = split ∙ sym (append_assoc (decimal v) (58 ∷ take v t) (gap_byte g ∷ drop (v + 1) t)) in
    let written : s ≡ written_word (text (take v t)) ++ gap_byte g ∷ drop (v + 1) t = joined ∙ ap (λ k. (decimal k ++ 58 ∷ take v t) ++ gap_byte g ∷ drop (v + 1) t) (sym count) in
    let some_bytes : length (decimal v ++ 58 ∷ take v t) ≡ n + 1 + v = omega (arith, length-append (decimal v) (58 ∷ take v t), digits, count) in
    let long : n + 1 + v + 1 ≡ length (written_word (text (take v t))) + 1 = omega (arith, some_bytes, ap (λ k. length (decimal k ++ 58 ∷ take v t)) count) in
    let small : length (take v t) ≤ size_limit = omega (arith, count, f.small) in
    in_front s (text (take v t)) g (drop (v + 1) t) (n + 1 + v + 1) small written long

-- a text that the bytes end before lacks some bytes and its gap
lacks_bytes : (s t : List ℕ) (n v : ℕ) → IsDecimalFront s n v → 0 < n → drop n s ≡ 58 ∷ t → length t ≤ v → IsCutShort s
lacks_bytes s t n v f some e l =
    let others : List ℕ = replicate (v - length t) 0 in
    let count : length (t ++ replicate (v - length t) 0) ≡ v = omega (arith, length-append t (replicate (v - length t) 0), length-replicate {A = ℕ} (v - length t) 0) in
    let split : s ++ (replicate (v - length t) 0 ++ 32 ∷ []) ≡ (decimal v ++ 58 ∷ (t ++ replicate (v - length t) 0)) ++ 32 ∷ [] =
    ap (λ u. u ++ (replicate (v - length t) 0 ++ 32 ∷ [])) (whole_text s t n v f some e) ∙ simp append_assoc in
    record {
      none = λ w g rest b.
          let k = text_begins s [] t n v w g rest f some e (without_more s w g rest b) in
          omega (arith, ap length (sym (append-nil t) ∙ k.front), k.count, length-append k.bytes (gap_byte g ∷ rest));
      more = others ++ 32 ∷ [];
      word = text (t ++ others);
      gap = Space;
      rest = [];
      begins = begins_of (s ++ (others ++ 32 ∷ [])) (text (t ++ others)) Space [] (omega (arith, count, f.small))
          (split ∙ ap (λ k. (decimal k ++ 58 ∷ (t ++ others)) ++ 32 ∷ []) (sym count));
    }

pub text_read : (s t : List ℕ) (n v : ℕ) (r : Result (Option ReadWord) Damage) → IsDecimalFront s n v → 0 < n → drop n s ≡ 58 ∷ t → ReadsText (n + 1) v t r → Reads s r
text_read s t n v (Ok (Some found)) f some e k = rw (k.1, k.2) (text_in_front s t n v found.gap f some e k.0 k.3)
text_read s t n v (Ok None) f some e k = lacks_bytes s t n v f some e k
text_read s t n v (Err damage) f some e k = λ more w g rest b.
    let h = text_begins s more t n v w g rest f some e b in
    let here : get_or (t ++ more) v 0 ≡ get_or t v 0 = get_or_append_left t more 0 v k.0 in
    let there : get_or (h.bytes ++ gap_byte g ∷ rest) v 0 ≡ gap_byte g = get_or_at h.bytes (gap_byte g) rest 0 v h.count in
    k.1 g (sym here ∙ ap (λ l. get_or l v 0) h.front ∙ there)

-- ---- numbers below 0

pub minus_damaged : (u : List ℕ) → IsNoDecimalFront u → IsDamaged (45 ∷ u)
minus_damaged u h more w g rest b =
    let k = minus_begins (u ++ more) w g rest b in
    h more (suc k.size) (gap_byte g) rest k.small (gap_no_digit g) k.front

-- the minus alone
pub minus_short : IsCutShort (45 ∷ [])
minus_short = record {
  none = λ w g rest b. let k = minus_begins [] w g rest b in omega (arith, ap length k.front, length-append (decimal (suc k.size)) (gap_byte g ∷ rest));
  more = 49 ∷ 32 ∷ [];
  word = number (negsuc 0);
  gap = Space;
  rest = [];
  begins = begins_of (45 ∷ 49 ∷ 32 ∷ []) (number (negsuc 0)) Space [] (omega arith) (rw (decimal_digit 1 (omega arith)) refl);
}

-- a minus and a zero
pub minus_zero : (u : List ℕ) (n : ℕ) → IsDecimalFront u n 0 → 0 < n → IsDamaged (45 ∷ u)
minus_zero u n f some more w g rest b =
    let k = minus_begins (u ++ more) w g rest b in
    let above = decimal_first (suc k.size) (omega arith) k.small in
    let longer = decimal_some (suc k.size) k.small in
    let zero_here : take n u ≡ 48 ∷ [] = sym (decimal_here u n 0 f some) ∙ decimal_digit 0 (omega arith) in
    let first : get_or u 0 0 ≡ 48 = sym (get_or-take n u 0 0 some) ∙ ap (λ l. get_or l 0 0) zero_here in
    let within : 0 < length u = omega (arith, f.within) in
    let left = get_or_append_left u more 0 0 within in
    let right = get_or_append_left (decimal (suc k.size)) (gap_byte g ∷ rest) 0 0 longer in
    let both = ap (λ l. get_or l 0 0) k.front in
    omega (arith, above, first, left, right, both)

pub below_read : (u : List ℕ) (n v : ℕ) (w : Lent) (r : Result (Option ReadWord) Damage) → IsDecimalFront u n v → 0 < n → 0 < v → shown w ≡ number (neg_ℤ (pos v)) → ReadsGap w (n + 1) (drop n u) r → Reads (45 ∷ u) r
below_read u n zero w r f some above e k = absurd (omega arith)
below_read u n (suc v) w (Ok (Some found)) f some above e k =
    let place = gap_place u n (gap_byte found.gap) f.within k.2 k.3 in
    let digits = decimal_here u n (suc v) f some in
    let whole : u ≡ decimal (suc v) ++ gap_byte found.gap ∷ drop (n + 1) u = rw (digits, ← place.1) (split_here u n place.0) in
    let long : n + 1 + 1 ≡ length (written_word (number (negsuc v))) + 1 = omega (arith, ap length digits, length-take-le n u f.within) in
    rw (k.0, k.1, e) (in_front (45 ∷ u) (number (negsuc v)) found.gap (drop (n + 1) u) (n + 1 + 1) f.small (ap (λ l. 45 ∷ l) whole) long)
below_read u n (suc v) w (Ok None) f some above e k =
    let end = no_rest u n f.within k in
    let all : prefix_len is_ascii_digit u ≡ length u = sym f.longest ∙ end in
    let none : (x : Word) (g : Gap) (rest : List ℕ) → ¬ Begins (45 ∷ u) x g rest = λ x g rest b.
    let h = minus_begins u x g rest b in
    no_end is_ascii_digit u (decimal (suc h.size)) (gap_byte g) rest all (digits_of_decimal (suc h.size) h.small) (gap_no_digit g) h.front in
    lacks_gap (45 ∷ u) (number (negsuc v)) none f.small (ap (λ l. 45 ∷ l) (decimal_here u n (suc v) f some ∙ take_all n u (omega arith)))
below_read u n (suc v) w (Err damage) f some above e k = λ more x g rest b.
    let place = gap_place u n (slice_index (drop n u) 0) f.within k.0 refl in
    let h = minus_begins (u ++ more) x g rest b in
    let same = same_front is_ascii_digit u more n (decimal (suc h.size)) (gap_byte g) rest f.longest place.0 (digits_of_decimal (suc h.size) h.small) (gap_no_digit g) h.front in
    k.1 g (sym place.1 ∙ same.1)

-- ---- other bytes

-- no bytes at all
pub empty_short : (s : List ℕ) → length s < 1 → IsCutShort s
empty_short [] h = record {
  none = none_at_end;
  more = 97 ∷ 32 ∷ [];
  word = name (97 ∷ []);
  gap = Space;
  rest = [];
  begins = record { word = record { letters = (refl, tt); some = omega arith; short = omega arith }; front = refl };
}
empty_short (x ∷ s) h = absurd (omega arith)

pub other_damaged : (s : List ℕ) → 0 < length s → is_ascii_lowercase (get_or s 0 0) ≡ false → is_ascii_digit (get_or s 0 0) ≡ false → (get_or s 0 0 ≡ 45 → ⊥) → IsDamaged s
other_damaged [] some l d m = absurd (omega arith)
other_damaged (x ∷ s) some l d m = λ more w g rest b. none_begins x (s ++ more) w g rest l d m b

-- the bytes after the first
pub minus_first : (s rest : List ℕ) → 0 < length s → get_or s 0 0 ≡ 45 → rest ≡ drop 1 s → s ≡ 45 ∷ rest
minus_first [] rest some e is = absurd (omega arith)
minus_first (x ∷ s) rest some e is = let same : x ≡ 45 = e in let after : s ≡ rest = sym is in rw (same, after) refl

-- what follows the front, as the rest that it is
pub no_colon : (s rest : List ℕ) (n : ℕ) → rest ≡ drop n s → (get_or rest 0 0 ≡ 58 → ⊥) → get_or s n 0 ≡ 58 → ⊥
no_colon s rest n is h e =
    let here : get_or (drop n s) 0 0 ≡ get_or s (n + 0) 0 = get_or-drop n s 0 0 in
    let place : n + 0 ≡ n = omega arith in
    h (ap (λ l. get_or l 0 0) is ∙ here ∙ ap (λ k. get_or s k 0) place ∙ e)

pub colon_first : (s rest t : List ℕ) (n : ℕ) → rest ≡ drop n s → 0 < length rest → get_or rest 0 0 ≡ 58 → t ≡ drop 1 rest → drop n s ≡ 58 ∷ t
colon_first s [] t n is some e after = absurd (omega arith)
colon_first s (x ∷ rest) t n is some e after = let same : x ≡ 58 = e in let left : rest ≡ t = sym after in sym is ∙ rw (same, left) refl
