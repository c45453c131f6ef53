-- Digits, and where a directive ends.
use Rattle.std.proofs.Common.{◌≡◌, ◌⊎◌, inl, inr, ℕ, zero, suc, ◌+◌, ◌-◌, ◌*◌, ◌/◌, ◌%◌, ◌^◌, ◌<◌, ◌≤◌, ◌==◌, Bool, true, false, cond, eqb, ltb, get_or, is_some, List, [], ◌∷◌, ◌++◌, length, drop, map, set, refl, ap, ◌∙◌, arith, append_assoc, length-drop}
use Rattle.std.proofs.Math.Nat.{pow-succ', div-lt_iff_lt-mul}
use Rattle.std.proofs.lemmas.List.{drop-set, map-append, drop_all, drop-drop}
use Rattle.std.specs.Int.Digits.{digits_of}
use Rattle.std.proofs.lemmas.Int.Digits.{digits_of_step, first_digits_of}
use Rattle.std.proofs.lemmas.Bool.Decides.{nat_tests}
use Rattle.std.proofs.lemmas.Bool.{false≢true}
use Rattle.std.specs.List.{prefix_len}
use Rattle.pawk_value.proofs.NumeralLemmas.{both_true}
use Rattle.pawk_value.specs.Bytes.{is_digit, is_point}
use Rattle.pawk_value.specs.Numeral.{begins, after_while}
use Rattle.pawk_value.specs.declared.directive.Conversion.{Conversion}
use Rattle.pawk_value.specs.declared.directive.Conversion.TheVariants as kind
use Rattle.pawk_value.specs.declared.directive.Directive.{Directive}
use Rattle.pawk_value.specs.Format.{digit_byte, radix_text, conversion_digits, is_octal, has_leading_zero, unsigned_digits, is_flag, past_flags, past_width, without_precision, past_directive}
use Rattle.pawk_value.specs.FormatViews.{IsRadix}

-- ---- digits, from the last to the first

-- space is left while digits are left
pub room_left : (left start : ℕ) → 0 < left → left < 8 ^ (start - 2) → 2 ≤ start → 3 ≤ start
room_left left zero h s l = absurd (omega arith)
room_left left (suc zero) h s l = absurd (omega arith)
room_left left (suc (suc zero)) h s l = absurd (omega arith)
room_left left (suc (suc (suc n))) h s l = omega arith

pub fewer_left : (left base start : ℕ) → (base ≡ 8) ⊎ (base ≡ 16) → left < 8 ^ (start - 2) → 3 ≤ start → left / base < 8 ^ (start - 1 - 2)
fewer_left left base start b s l =
    let e : start - 2 ≡ suc (start - 1 - 2) = omega arith in
    let s' = rw (e, pow-succ') at s in
    let some : 0 < base = elim b [ inl h ↦ omega arith | inr h ↦ omega arith ] in
    let wide : left < 8 ^ (start - 1 - 2) * base = elim b [ inl h ↦ rw h (omega arith) | inr h ↦ rw h (omega arith) ] in
    (div-lt_iff_lt-mul some).1 wide

pub digit_written : (f : ℕ → ℕ) (base left start : ℕ) (buffer all : List ℕ) → 2 ≤ base → 0 < left → 0 < start → start ≤ length buffer → map f (digits_of base left) ++ drop start buffer ≡ all → map f (digits_of base (left / base)) ++ drop (start - 1) (set buffer (start - 1) (f (left % base))) ≡ all
digit_written f base left start buffer all b l s w h =
    let here = drop-set buffer (start - 1) (f (left % base)) (omega arith) in
    let next : start - 1 + 1 ≡ start = omega arith in
    let step = digits_of_step base left b l in
    rw (here, next) (rw (step, map-append, append_assoc) at h)

-- ---- the digits of a number without sign

no_first_zero : (upper : Bool) (k : ℕ) → 0 < k → eqb (digit_byte upper k) 48 ≡ false
no_first_zero upper k h = elim upper as (λ u. eqb (cond (ltb k 10) (48 + k) (cond u (55 + k) (87 + k))) 48 ≡ false) [ true ↦ grind (arith, nat_tests) | false ↦ grind (arith, nat_tests) ]

some_first : (ds : List ℕ) → (0 < length ds → 0 < get_or ds 0 0) → begins (λ b. b == 48) (map (digit_byte false) ds) ≡ false
some_first [] h = refl
some_first (d ∷ ds) h = no_first_zero false d (h (omega arith))

no_leading_zero : (n : ℕ) → 0 < n → begins (λ b. b == 48) (radix_text 8 false n) ≡ false
no_leading_zero n h =
    let some : eqb n 0 ≡ false = grind (arith, nat_tests) in
    rw some (some_first (digits_of 8 n) (λ _. first_digits_of 8 n (omega arith) h))

zero_conversion : (c : Conversion) → IsRadix c → conversion_digits c 0 ≡ 48 ∷ []
zero_conversion c (inl h) = rw h refl
zero_conversion c (inr (inl h)) = rw h refl
zero_conversion c (inr (inr h)) = rw h refl

pub zero_leads : (d : Directive) → has_leading_zero d ≡ true → is_some d.precision ≡ true → unsigned_digits d 0 ≡ 48 ∷ []
zero_leads d h p = rw (h, p) refl

pub zero_plain : (d : Directive) → IsRadix d.conversion → is_some d.precision ≡ false → unsigned_digits d 0 ≡ 48 ∷ []
zero_plain d c p = rw (p, zero_conversion d.conversion c) (elim (has_leading_zero d) as (λ v. cond {A = List ℕ} v (48 ∷ []) (48 ∷ []) ≡ 48 ∷ []) [ true ↦ refl | false ↦ refl ])

octal_is : (c : Conversion) → is_octal c ≡ true → c ≡ kind.Octal
octal_is kind.Octal h = refl
octal_is kind.Signed h = absurd (false≢true h)
octal_is kind.Unsigned h = absurd (false≢true h)
octal_is kind.Hexadecimal h = absurd (false≢true h)
octal_is kind.UpperHexadecimal h = absurd (false≢true h)
octal_is kind.Text h = absurd (false≢true h)
octal_is kind.Byte h = absurd (false≢true h)

pub some_leads : (d : Directive) (n : ℕ) → 0 < n → has_leading_zero d ≡ true → unsigned_digits d n ≡ 48 ∷ conversion_digits d.conversion n
some_leads d n h l =
    let both = both_true (is_octal d.conversion) d.flags.alternate l in
    let octal = octal_is d.conversion both.0 in
    let some : eqb n 0 ≡ false = grind (arith, nat_tests) in
    let first = some_first (digits_of 8 n) (λ _. first_digits_of 8 n (omega arith) h) in
    rw (octal, both.1, some, first) refl

-- ---- the last byte

pub last_byte : (buffer : List ℕ) (n b : ℕ) → length buffer ≡ suc n → drop n (set buffer n b) ≡ b ∷ []
last_byte buffer n b h = drop-set buffer n b (omega arith) ∙ ap (λ l. b ∷ l) (drop_all (n + 1) buffer (omega arith))

pub one_more_byte : (buffer : List ℕ) (start b : ℕ) → 0 < start → start ≤ length buffer → drop (start - 1) (set buffer (start - 1) b) ≡ b ∷ drop start buffer
one_more_byte buffer start b h l =
    let next : start - 1 + 1 ≡ start = omega arith in
    rw (drop-set buffer (start - 1) b (omega arith), next) refl

-- ---- what is left is an end of what was

abbrev pub IsEnd : List ℕ → List ℕ → Type 0
IsEnd t s = (k : ℕ) × (t ≡ drop k s)

end_of_end : (t u s : List ℕ) → IsEnd t u → IsEnd u s → IsEnd t s
end_of_end t u s (j, e) (k, f) = (k + j, e ∙ ap (drop j) f ∙ drop-drop j k s)

end_of_precision : (s : List ℕ) → IsEnd (without_precision s) s
end_of_precision s = elim (begins is_point s) as (λ v. IsEnd (cond v (after_while is_digit (drop 1 s)) s) s) [
  | true ↦ end_of_end (after_while is_digit (drop 1 s)) (drop 1 s) s (prefix_len is_digit (drop 1 s), refl) (1, refl)
  | false ↦ (0, refl)
]

pub end_of_directive : (s : List ℕ) → IsEnd (past_directive s) s
end_of_directive s =
    let width : IsEnd (past_width s) s = end_of_end (past_width s) (past_flags s) s (prefix_len is_digit (past_flags s), refl) (prefix_len is_flag s, refl) in
    let precision = end_of_end (without_precision (past_width s)) (past_width s) s (end_of_precision (past_width s)) width in
    end_of_end (past_directive s) (without_precision (past_width s)) s (1, refl) precision

pub end_is_short : (t s : List ℕ) → IsEnd t s → length t ≤ length s
end_is_short t s (k, e) = let long : length t ≡ length s - k = ap length e ∙ length-drop k s in omega arith

pub shorter_directive : (s : List ℕ) → length (past_directive s) ≤ length s
shorter_directive s = end_is_short (past_directive s) s (end_of_directive s)
