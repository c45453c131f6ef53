-- A format is cut into pieces in one way.
use Rattle.std.proofs.Common.{◌≡◌, ◌⊎◌, inl, inr, ℕ, zero, suc, ◌+◌, ◌≤◌, Bool, true, false, cond, eqb, ◌||◌, List, [], ◌∷◌, ◌++◌, length, take, drop, slice_index, Option, Some, None, refl, ap, sym, ◌∙◌, subst, arith, append_assoc, length-append, length-drop, one-add}
use Rattle.std.proofs.lemmas.Bool.Decides.{nat_tests, eqb_tells}
use Rattle.std.proofs.lemmas.Bool.{false≢true}
use Rattle.std.specs.List.{prefix_len}
use Rattle.std.proofs.lemmas.List.{take-append-drop}
use Rattle.std.proofs.Math.Seq.{take-append_seam, drop-append_seam}
use Rattle.pawk_value.specs.Bytes.{is_digit, is_point}
use Rattle.pawk_value.specs.Numeral.{AreDigits, after_while, begins}
use Rattle.pawk_value.proofs.NumeralLemmas.{digits_prefix, none_in_front, both_true}
use Rattle.pawk_value.specs.Format.{Spelling, is_flag, is_conversion, is_proper, directive_of, precision_text, bytes_of_spelling, spelling_in_front, past_directive, past_flags, past_width, precision_in_front, without_precision, is_percent, Piece, Plain, Percent, Place, Malformed, pieces_within, pieces_of}
use Rattle.pawk_value.specs.FormatLaw.{AreFlags, ArePrecisionDigits, IsSpelling, BeginsNothing, IsCut, FormatLaw}
use Rattle.pawk_value.proofs.FormatLemmas.{shorter_directive}

-- ---- bytes apart

digit_no_point : (b : ℕ) → is_digit b ≡ true → is_point b ≡ false
digit_no_point b h = grind (arith, nat_tests)

abbrev IsLetter : ℕ → Type 0
IsLetter c = (is_flag c ≡ false) × (is_digit c ≡ false) × (is_point c ≡ false) × (is_percent c ≡ false)

letter : (x c : ℕ) → x ≡ c → IsLetter x → IsLetter c
letter x c e h = subst IsLetter e h

either_is : (x c : ℕ) (rest : Bool) → (eqb x c || rest) ≡ true → (x ≡ c) ⊎ (rest ≡ true)
either_is x c rest h = elim (eqb_tells x c) [ inl y ↦ inl y.1 | inr f ↦ inr (rw f.0 at h) ]

flag_no_percent : (b : ℕ) → is_flag b ≡ true → is_percent b ≡ false
flag_no_percent b h = elim (eqb_tells b 37) [ inl y ↦ let h' = rw y.1 at h in absurd (false≢true h') | inr f ↦ f.0 ]

digit_no_percent : (b : ℕ) → is_digit b ≡ true → is_percent b ≡ false
digit_no_percent b h = grind (arith, nat_tests)

-- a conversion is a letter
conversion_is : (c : ℕ) → is_conversion c ≡ true → IsLetter c
conversion_is c h =
    elim (either_is 100 c _ h) [
      | inl e ↦ letter 100 c e (refl, refl, refl, refl)
      | inr h1 ↦
          elim (either_is 105 c _ h1) [
            | inl e ↦ letter 105 c e (refl, refl, refl, refl)
            | inr h2 ↦
                elim (either_is 111 c _ h2) [
                  | inl e ↦ letter 111 c e (refl, refl, refl, refl)
                  | inr h3 ↦
                      elim (either_is 117 c _ h3) [
                        | inl e ↦ letter 117 c e (refl, refl, refl, refl)
                        | inr h4 ↦
                            elim (either_is 120 c _ h4) [
                              | inl e ↦ letter 120 c e (refl, refl, refl, refl)
                              | inr h5 ↦
                                  elim (either_is 88 c _ h5) [
                                    | inl e ↦ letter 88 c e (refl, refl, refl, refl)
                                    | inr h6 ↦
                                        elim (either_is 115 c _ h6) [
                                          | inl e ↦ letter 115 c e (refl, refl, refl, refl)
                                          | inr h7 ↦
                                              elim (either_is 99 c _ h7) [ inl e ↦ letter 99 c e (refl, refl, refl, refl) | inr h8 ↦ absurd (false≢true h8) ]
                                        ]
                                  ]
                            ]
                      ]
                ]
          ]
    ]

-- ---- flags in front

flags_prefix : (fs r : List ℕ) → AreFlags fs → begins is_flag r ≡ false → prefix_len is_flag (fs ++ r) ≡ length fs
flags_prefix [] [] h n = refl
flags_prefix [] (b ∷ r) h n = rw n refl
flags_prefix (f ∷ fs) r h n = rw h.0 (let more = flags_prefix fs r h.1 n in omega arith)

digits_end : (ds r : List ℕ) → AreDigits ds → begins is_digit r ≡ false → prefix_len is_digit (ds ++ r) ≡ length ds
digits_end ds r h n = let none = none_in_front r n in rw (digits_prefix ds r h, none) (omega arith)

-- ---- a directive that is spelled is read

abbrev after_width : Option (List ℕ) → ℕ → List ℕ → List ℕ
after_width p c t = precision_text p ++ c ∷ t

spelled_out : (d : Spelling) (t : List ℕ) → bytes_of_spelling d ++ t ≡ d.flags ++ (d.width ++ after_width d.precision d.letter t)
spelled_out d t = simp append_assoc

no_flag_follows : (p : Option (List ℕ)) (c : ℕ) (t : List ℕ) → IsLetter c → begins is_flag (after_width p c t) ≡ false
no_flag_follows None c t l = l.0
no_flag_follows (Some p) c t l = refl

no_digit_follows : (p : Option (List ℕ)) (c : ℕ) (t : List ℕ) → IsLetter c → begins is_digit (after_width p c t) ≡ false
no_digit_follows None c t l = l.1
no_digit_follows (Some p) c t l = refl

no_flag_width : (w : List ℕ) (p : Option (List ℕ)) (c : ℕ) (t : List ℕ) → IsLetter c → begins is_flag w ≡ false → begins is_flag (w ++ after_width p c t) ≡ false
no_flag_width [] p c t l h = no_flag_follows p c t l
no_flag_width (b ∷ w) p c t l h = h

front_flags : (fs r : List ℕ) → AreFlags fs → begins is_flag r ≡ false → (take (prefix_len is_flag (fs ++ r)) (fs ++ r) ≡ fs) × (drop (prefix_len is_flag (fs ++ r)) (fs ++ r) ≡ r)
front_flags fs r h n = rw (flags_prefix fs r h n) (take-append_seam fs r, drop-append_seam fs r)

front_digits : (ds r : List ℕ) → AreDigits ds → begins is_digit r ≡ false → (take (prefix_len is_digit (ds ++ r)) (ds ++ r) ≡ ds) × (drop (prefix_len is_digit (ds ++ r)) (ds ++ r) ≡ r)
front_digits ds r h n = rw (digits_end ds r h n) (take-append_seam ds r, drop-append_seam ds r)

front_precision : (p : Option (List ℕ)) (c : ℕ) (t : List ℕ) → IsLetter c → ArePrecisionDigits p → (precision_in_front (after_width p c t) ≡ p) × (without_precision (after_width p c t) ≡ c ∷ t)
front_precision None c t l h = rw l.2 (refl, refl)
front_precision (Some ds) c t l h = let all = front_digits ds (c ∷ t) h l.1 in (ap Some all.0, all.1)

is_letter : (d : Spelling) → IsSpelling d → IsLetter d.letter
is_letter d h = conversion_is d.letter (both_true (is_conversion d.letter) _ h.proper).0

reads : (d : Spelling) (t : List ℕ) → IsSpelling d → (spelling_in_front (bytes_of_spelling d ++ t) ≡ d) × (past_directive (bytes_of_spelling d ++ t) ≡ t)
reads d t h =
    let l = is_letter d h in
    let b = after_width d.precision d.letter t in
    let w = d.width ++ b in
    let f = front_flags d.flags w h.flags (no_flag_width d.width d.precision d.letter t l h.first) in
    let g = front_digits d.width b h.width (no_digit_follows d.precision d.letter t l) in
    let p = front_precision d.precision d.letter t l h.precision in
    rw (spelled_out d t, f.0, f.1, g.0, g.1, p.0, p.1) (refl, refl)

first_of : (fs w : List ℕ) (p : Option (List ℕ)) (c : ℕ) (t : List ℕ) → AreFlags fs → AreDigits w → IsLetter c → begins is_percent (fs ++ (w ++ after_width p c t)) ≡ false
first_of (f ∷ fs) w p c t hf hw l = flag_no_percent f hf.0
first_of [] (b ∷ w) p c t hf hw l = digit_no_percent b hw.0
first_of [] [] (Some ds) c t hf hw l = refl
first_of [] [] None c t hf hw l = l.3

no_percent_spelled : (d : Spelling) (t : List ℕ) → IsSpelling d → begins is_percent (bytes_of_spelling d ++ t) ≡ false
no_percent_spelled d t h = rw (spelled_out d t) (first_of d.flags d.width d.precision d.letter t h.flags h.width (is_letter d h))

-- ---- what is read is spelled

flags_taken : (s : List ℕ) → AreFlags (take (prefix_len is_flag s) s)
flags_taken [] = tt
flags_taken (b ∷ s) =
    let more = flags_taken s in
    elim (is_flag b) as (λ v. (is_flag b ≡ v) → AreFlags (take (cond v (1 + prefix_len is_flag s) 0) (b ∷ s))) [
      | true ↦ (λ e. rw one-add (e, more))
      | false ↦ (λ e. tt)
    ] refl

digits_taken : (s : List ℕ) → AreDigits (take (prefix_len is_digit s) s)
digits_taken [] = tt
digits_taken (b ∷ s) =
    let more = digits_taken s in
    elim (is_digit b) as (λ v. (is_digit b ≡ v) → AreDigits (take (cond v (1 + prefix_len is_digit s) 0) (b ∷ s))) [
      | true ↦ (λ e. rw one-add (e, more))
      | false ↦ (λ e. tt)
    ] refl

no_flag_left : (s : List ℕ) → begins is_flag (after_while is_flag s) ≡ false
no_flag_left [] = refl
no_flag_left (b ∷ s) =
    let more = no_flag_left s in
    elim (is_flag b) as (λ v. (is_flag b ≡ v) → begins is_flag (drop (cond v (1 + prefix_len is_flag s) 0) (b ∷ s)) ≡ false) [
      | true ↦ (λ e. rw one-add more)
      | false ↦ (λ e. e)
    ] refl

no_flag_taken : (n : ℕ) (s : List ℕ) → begins is_flag s ≡ false → begins is_flag (take n s) ≡ false
no_flag_taken zero s h = refl
no_flag_taken (suc n) [] h = refl
no_flag_taken (suc n) (b ∷ s) h = h

precision_taken : (s : List ℕ) → ArePrecisionDigits (precision_in_front s)
precision_taken s = elim (begins is_point s) as (λ v. ArePrecisionDigits (cond v (Some (take (prefix_len is_digit (drop 1 s)) (drop 1 s))) None)) [ true ↦ digits_taken (drop 1 s) | false ↦ tt ]

read_directive : (t : List ℕ) → is_proper (spelling_in_front t) ≡ true → IsSpelling (spelling_in_front t)
read_directive t h = record {
  flags = flags_taken t;
  width = digits_taken (past_flags t);
  first = no_flag_taken (prefix_len is_digit (past_flags t)) (past_flags t) (no_flag_left t);
  precision = precision_taken (past_width t);
  proper = h;
}

precision_back : (s : List ℕ) → s ≡ precision_text (precision_in_front s) ++ without_precision s
precision_back [] = refl
precision_back (b ∷ s) =
    elim (eqb_tells b 46) [
      | inl y ↦ rw (y.0, y.1) (ap (λ l. 46 ∷ l) (sym (take-append-drop (prefix_len is_digit s) s)))
      | inr f ↦ rw f.0 refl
    ]

some_back : (s : List ℕ) → is_conversion (slice_index s 0) ≡ true → s ≡ slice_index s 0 ∷ drop 1 s
some_back [] h = absurd (false≢true h)
some_back (b ∷ s) h = refl

spelled_back : (t : List ℕ) → is_proper (spelling_in_front t) ≡ true → t ≡ bytes_of_spelling (spelling_in_front t) ++ past_directive t
spelled_back t h =
    let d = spelling_in_front t in
    let letter = (both_true (is_conversion d.letter) _ h).0 in
    let last = some_back (without_precision (past_width t)) letter in
    let width = precision_back (past_width t) ∙ ap (λ l. precision_text d.precision ++ l) last in
    let flags = sym (take-append-drop (prefix_len is_digit (past_flags t)) (past_flags t)) ∙ ap (λ l. d.width ++ l) width in
    let all = sym (take-append-drop (prefix_len is_flag t) t) ∙ ap (λ l. d.flags ++ l) flags in
    all ∙ sym (spelled_out d (past_directive t))

-- ---- the cut

begins_nothing : (t : List ℕ) → begins is_percent t ≡ false → is_proper (spelling_in_front t) ≡ false → BeginsNothing t
begins_nothing t n f = record {
  percent = n;
  directive = λ d r h e. let read = reads d r h in let same = ap spelling_in_front e ∙ read.0 in false≢true (sym f ∙ ap is_proper same ∙ h.proper);
}

not_proper : (t : List ℕ) → BeginsNothing t → is_proper (spelling_in_front t) ≡ false
not_proper t h = elim (is_proper (spelling_in_front t)) as (λ v. (is_proper (spelling_in_front t) ≡ v) → v ≡ false) [
  | true ↦ (λ e. absurd (h.directive (spelling_in_front t) (past_directive t) (read_directive t e) (spelled_back t e)))
  | false ↦ (λ e. refl)
] refl

first_percent : (s : List ℕ) → begins is_percent s ≡ true → s ≡ 37 ∷ drop 1 s
first_percent [] h = absurd (false≢true h)
first_percent (b ∷ s) h = elim (eqb_tells b 37) [ inl y ↦ ap (λ x. x ∷ s) y.1 | inr f ↦ absurd (false≢true (sym f.0 ∙ h)) ]

past_is_shorter : (s : List ℕ) (n : ℕ) → length s ≤ n → length (past_directive s) ≤ n
past_is_shorter s n h = let short = shorter_directive s in omega arith

-- what the pieces after a `%` are
abbrev after_percent : ℕ → List ℕ → List Piece
after_percent n s =
    cond (begins is_percent s) (Percent ∷ pieces_within n (drop 1 s))
    (cond (is_proper (spelling_in_front s)) (Place (directive_of (spelling_in_front s)) ∷ pieces_within n (past_directive s)) (Malformed ∷ []))

pub from_percent : (n : ℕ) (s : List ℕ) → pieces_within (suc n) (37 ∷ s) ≡ after_percent n s
unfolding pieces_within
from_percent n s = refl

pub from_plain_byte : (n b : ℕ) (s : List ℕ) → is_percent b ≡ false → pieces_within (suc n) (b ∷ s) ≡ Plain b ∷ pieces_within n s
unfolding pieces_within
from_plain_byte n b s h = rw h refl

no_pieces : (n : ℕ) → pieces_within n [] ≡ []
unfolding pieces_within
no_pieces zero = refl
no_pieces (suc n) = refl

cut_after_percent : (n : ℕ) (s : List ℕ) → length s ≤ n → ((t : List ℕ) → length t ≤ n → IsCut t (pieces_within n t)) → IsCut (37 ∷ s) (after_percent n s)
cut_after_percent n s h more =
    elim (begins is_percent s) as (λ v. (begins is_percent s ≡ v) → IsCut (37 ∷ s) (cond v (Percent ∷ pieces_within n (drop 1 s)) (cond (is_proper (spelling_in_front s)) (Place (directive_of (spelling_in_front s)) ∷ pieces_within n (past_directive s)) (Malformed ∷ [])))) [
      | true ↦ (λ e. (drop 1 s, ap (λ l. 37 ∷ l) (first_percent s e), more (drop 1 s) (omega (arith, length-drop 1 s))))
      | false ↦ (λ e. elim (is_proper (spelling_in_front s)) as (λ v. (is_proper (spelling_in_front s) ≡ v) → IsCut (37 ∷ s) (cond v (Place (directive_of (spelling_in_front s)) ∷ pieces_within n (past_directive s)) (Malformed ∷ []))) [
        | true ↦ (λ p. (spelling_in_front s, (read_directive s p, refl, (past_directive s, ap (λ l. 37 ∷ l) (spelled_back s p), more (past_directive s) (past_is_shorter s n h)))))
        | false ↦ (λ p. (s, (begins_nothing s e p, refl, refl)))
      ] refl)
    ] refl

pub cut_is : (n : ℕ) (s : List ℕ) → length s ≤ n → IsCut s (pieces_within n s)
cut_is n [] h = rw (no_pieces n) refl
cut_is zero (b ∷ s) h = absurd (omega arith)
cut_is (suc n) (b ∷ s) h =
    elim (eqb_tells b 37) [
      | inl y ↦ rw y.1 (rw (from_percent n s) (cut_after_percent n s (omega arith) (cut_is n)))
      | inr f ↦ rw (from_plain_byte n b s f.0) (f.0, (s, refl, cut_is n s (omega arith)))
    ]

pub place_piece : (n : ℕ) (s : List ℕ) → begins is_percent s ≡ false → is_proper (spelling_in_front s) ≡ true → pieces_within (suc n) (37 ∷ s) ≡ Place (directive_of (spelling_in_front s)) ∷ pieces_within n (past_directive s)
place_piece n s e p = from_percent n s ∙ rw (e, p) refl

pub percent_piece : (n : ℕ) (s : List ℕ) → begins is_percent s ≡ true → pieces_within (suc n) (37 ∷ s) ≡ Percent ∷ pieces_within n (drop 1 s)
percent_piece n s e = from_percent n s ∙ rw e refl

pub malformed_piece : (n : ℕ) (s : List ℕ) → begins is_percent s ≡ false → is_proper (spelling_in_front s) ≡ false → pieces_within (suc n) (37 ∷ s) ≡ Malformed ∷ []
malformed_piece n s e p = from_percent n s ∙ rw (e, p) refl

pub one_cut : (n : ℕ) (qs : List Piece) (s : List ℕ) → length s ≤ n → IsCut s qs → qs ≡ pieces_within n s
one_cut n [] s h c = rw c (sym (no_pieces n))
one_cut zero (Plain b ∷ qs) s h c = absurd (omega (arith, ap length c.1.1))
one_cut zero (Percent ∷ qs) s h c = absurd (omega (arith, ap length c.1))
one_cut zero (Place d ∷ qs) s h c = absurd (omega (arith, ap length c.1.2.1))
one_cut zero (Malformed ∷ qs) s h c = absurd (omega (arith, ap length c.1.1))
one_cut (suc n) (Plain b ∷ qs) s h c =
    let short = ap length c.1.1 in
    let more = one_cut n qs c.1.0 (omega arith) c.1.2 in
    rw c.1.1 (ap (λ l. Plain b ∷ l) more ∙ sym (from_plain_byte n b c.1.0 c.0))
one_cut (suc n) (Percent ∷ qs) s h c =
    let short = ap length c.1 in
    let more = one_cut n qs c.0 (omega arith) c.2 in
    rw c.1 (ap (λ l. Percent ∷ l) more ∙ sym (percent_piece n (37 ∷ c.0) refl))
one_cut (suc n) (Place d ∷ qs) s h c =
    let p = c.0 in
    let is = c.1.0 in
    let t = c.1.2.0 in
    let read = reads p t is in
    let short = ap length c.1.2.1 in
    let more = one_cut n qs t (omega (arith, length-append (bytes_of_spelling p) t)) c.1.2.2 in
    rw (c.1.2.1, c.1.1) (ap (λ l. Place (directive_of p) ∷ l) more ∙ sym (place_piece n (bytes_of_spelling p ++ t) (no_percent_spelled p t is) (ap is_proper read.0 ∙ is.proper) ∙ (λ i. Place (directive_of (read.0 i)) ∷ pieces_within n (read.1 i))))
one_cut (suc n) (Malformed ∷ qs) s h c =
    rw (c.1.1, c.1.2) (sym (malformed_piece n c.0 c.1.0.percent (not_proper c.0 c.1.0)))

pub format_law : (s : List ℕ) → FormatLaw s
format_law s = (cut_is (length s) s (omega arith), λ qs c. one_cut (length s) qs s (omega arith) c)

-- more bytes than there are make no difference
pub enough_bytes : (n : ℕ) (s : List ℕ) → length s ≤ n → pieces_within n s ≡ pieces_of s
enough_bytes n s h = one_cut (length s) (pieces_within n s) s (omega arith) (cut_is n s h)
