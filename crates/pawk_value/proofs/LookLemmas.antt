-- A text looks like a numeral exactly where it is blanks, a numeral and blanks.
use Rattle.std.proofs.Common.{◌≡◌, ℕ, ◌+◌, Bool, true, false, cond, ◌&&◌, List, [], ◌∷◌, ◌++◌, take, Option, Some, None, IfSome, option_to_list, refl, ap, sym, ◌∙◌, arith, append_assoc, one-add}
use Rattle.std.proofs.lemmas.Bool.Decides.{nat_tests}
use Rattle.std.proofs.lemmas.List.{take-append-drop}
use Rattle.std.specs.List.{prefix_len, list_all}
use Rattle.pawk_value.specs.Bytes.{is_blank, is_digit, is_sign, is_point, is_e}
use Rattle.pawk_value.specs.Numeral.{AreDigits, IsSign, Exponent, IsExponent, Parts, fraction_digits, IsProper, exponent_text, spelling, after_while, begins, without_sign, has_exponent}
use Rattle.pawk_value.specs.Look.{AreBlanks, Looks, has_digit, without_fraction, without_exponent, looks_unsigned, looks, LookLaw}
use Rattle.pawk_value.proofs.NumeralLemmas.{digits_after, after_front, e_len, e_no_digit, e_no_point, unsigned_text, digit_spelled, no_sign_spelled, after_sign, read_back, numeral_in_front, both_true, digits_begin, no_sign as no_sign_of_digit}

-- ---- blanks

blanks_prefix : (bs r : List ℕ) → AreBlanks bs → begins is_blank r ≡ false → after_while is_blank (bs ++ r) ≡ r
blanks_prefix [] [] h n = refl
blanks_prefix [] (b ∷ r) h n = rw n refl
blanks_prefix (b ∷ bs) r h n = rw (h.0, one-add) (blanks_prefix bs r h.1 n)

blanks_in_front : (s : List ℕ) → AreBlanks (take (prefix_len is_blank s) s)
blanks_in_front [] = tt
blanks_in_front (b ∷ s) =
    let more = blanks_in_front s in
    elim (is_blank b) as (λ v. (is_blank b ≡ v) → AreBlanks (take (cond v (1 + prefix_len is_blank s) 0) (b ∷ s))) [
      | true ↦ (λ e. rw one-add (e, more))
      | false ↦ (λ e. tt)
    ] refl

AreBlanks-list_all : (s : List ℕ) → list_all is_blank s ≡ true → AreBlanks s
AreBlanks-list_all [] h = tt
AreBlanks-list_all (b ∷ s) h =
    let both = both_true (is_blank b) (list_all is_blank s) h in
    (both.0, AreBlanks-list_all s both.1)

list_all-AreBlanks : (s : List ℕ) → AreBlanks s → list_all is_blank s ≡ true
list_all-AreBlanks [] h = refl
list_all-AreBlanks (b ∷ s) h = rw h.0 (list_all-AreBlanks s h.1)

blank_no_digit : (b : ℕ) → is_blank b ≡ true → is_digit b ≡ false
blank_no_digit b h = grind (arith, nat_tests)

blank_no_e : (b : ℕ) → is_blank b ≡ true → is_e b ≡ false
blank_no_e b h = grind (arith, nat_tests)

blank_no_point : (b : ℕ) → is_blank b ≡ true → is_point b ≡ false
blank_no_point b h = grind (arith, nat_tests)

sign_no_blank : (b : ℕ) → is_sign b ≡ true → is_blank b ≡ false
sign_no_blank b h = grind (arith, nat_tests)

digit_no_blank : (b : ℕ) → is_digit b ≡ true → is_blank b ≡ false
digit_no_blank b h = grind (arith, nat_tests)

point_no_blank : (b : ℕ) (v : Bool) → (is_point b && v) ≡ true → is_blank b ≡ false
point_no_blank b v h = grind (arith, nat_tests)

-- ---- blanks after a numeral

no_digit_after : (s : List ℕ) → AreBlanks s → begins is_digit s ≡ false
no_digit_after [] h = refl
no_digit_after (b ∷ s) h = blank_no_digit b h.0

no_point_after : (s : List ℕ) → AreBlanks s → begins is_point s ≡ false
no_point_after [] h = refl
no_point_after (b ∷ s) h = blank_no_point b h.0

no_exponent_after : (s : List ℕ) → AreBlanks s → has_exponent s ≡ false
no_exponent_after [] h = refl
no_exponent_after (b ∷ s) h = rw (blank_no_e b h.0) refl

bare_after : (s : List ℕ) → AreBlanks s → after_while is_digit s ≡ s
bare_after s h = after_front s [] s tt (no_digit_after s h) refl

exponent_before : (e : Exponent) (s : List ℕ) → IsExponent e → AreBlanks s → without_exponent (exponent_text (Some e) ++ s) ≡ s
exponent_before e s h b =
    let first = digits_begin e.digits s h.digits h.some in
    let plain = no_sign_of_digit (e.digits ++ s) first in
    let skip = after_sign e.sign (e.digits ++ s) h.sign plain in
    let rest : after_while is_digit (e.digits ++ s) ≡ s = digits_after e.digits s h.digits ∙ bare_after s b in
    rw (e_len e s h).0 (rw (append_assoc, skip) rest)

no_digit_e : (e : Exponent) (s : List ℕ) → IsExponent e → after_while is_digit (exponent_text (Some e) ++ s) ≡ exponent_text (Some e) ++ s
no_digit_e e s h = rw (e_no_digit e.letter h.letter) refl

-- what follows the numeral
rest_of : (whole : List ℕ) (fr : Option (List ℕ)) (ex : Option Exponent) (s : List ℕ) → AreDigits whole → AreDigits (fraction_digits fr) → IfSome ex IsExponent → AreBlanks s → without_exponent (without_fraction (after_while is_digit (unsigned_text whole fr ex s))) ≡ s
rest_of whole None None s w f h b =
    rw (digits_after whole s w, bare_after s b, no_point_after s b, no_exponent_after s b) refl
rest_of whole None (Some e) s w f h b =
    rw (digits_after whole (exponent_text (Some e) ++ s) w) (rw (e_no_digit e.letter h.letter) (rw (e_no_point e.letter h.letter) (exponent_before e s h b)))
rest_of whole (Some ds) None s w f h b =
    rw (digits_after whole (46 ∷ (ds ++ s)) w) (rw (digits_after ds s f, bare_after s b, no_exponent_after s b) refl)
rest_of whole (Some ds) (Some e) s w f h b =
    rw (digits_after whole (46 ∷ (ds ++ (exponent_text (Some e) ++ s))) w) (rw (digits_after ds (exponent_text (Some e) ++ s) f) (rw (e_no_digit e.letter h.letter) (exponent_before e s h b)))

no_blank_u : (u : List ℕ) → has_digit u ≡ true → begins is_blank u ≡ false
no_blank_u [] h = refl
no_blank_u (b ∷ u) h =
    elim (is_digit b) as (λ v. (is_digit b ≡ v) → is_blank b ≡ false) [ true ↦ (λ e. digit_no_blank b e) | false ↦ (λ e. point_no_blank b (begins is_digit u) (rw e at h)) ] refl

no_blank_in_front : (sg : Option ℕ) (u : List ℕ) → IfSome sg IsSign → has_digit u ≡ true → begins is_blank (option_to_list sg ++ u) ≡ false
no_blank_in_front None u h d = no_blank_u u d
no_blank_in_front (Some b) u h d = sign_no_blank b h

looks_from : (s : List ℕ) → looks s ≡ true → Looks s
unfolding looks
looks_from s h =
    let t = after_while is_blank s in
    let both = both_true (has_digit (without_sign t)) (list_all is_blank (without_exponent (without_fraction (after_while is_digit (without_sign t))))) h in
    let found = numeral_in_front t both.0 in
    let blanks = rw found.5 at both.1 in
    record {
      before = take (prefix_len is_blank s) s;
      parts = found.0;
      after = found.1;
      blanks_before = blanks_in_front s;
      proper = found.2;
      blanks_after = AreBlanks-list_all found.1 blanks;
      text = sym (take-append-drop (prefix_len is_blank s) s) ∙ ap (λ l. take (prefix_len is_blank s) s ++ l) found.3;
    }

looks_spelled : (p : Parts) (s : List ℕ) → IsProper p → AreBlanks s → (begins is_blank (spelling p ++ s) ≡ false) × (looks_unsigned (without_sign (spelling p ++ s)) ≡ true)
looks_spelled p s h b =
    let u = unsigned_text p.whole p.fraction p.exponent s in
    let digit : has_digit u ≡ true = digit_spelled p.whole p.fraction (exponent_text p.exponent ++ s) h.whole h.fraction h.some in
    let plain : begins is_sign u ≡ false = no_sign_spelled u digit in
    let skip = after_sign p.sign u h.sign plain in
    let first = no_blank_in_front p.sign u h.sign digit in
    let rest = rest_of p.whole p.fraction p.exponent s h.whole h.fraction h.exponent b in
    rw (read_back p s) (first, rw skip (rw (digit, rest) (list_all-AreBlanks s b)))

looks_to : (s : List ℕ) → Looks s → looks s ≡ true
unfolding looks
looks_to s h =
    let all = looks_spelled h.parts h.after h.proper h.blanks_after in
    rw h.text (rw (blanks_prefix h.before (spelling h.parts ++ h.after) h.blanks_before all.0) all.1)

pub look_law : (s : List ℕ) → LookLaw s
look_law s = (λ h. looks_from s h, λ h. looks_to s h)
