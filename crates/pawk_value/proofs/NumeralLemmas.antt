-- The number of a text is that of its longest numeral.
use Rattle.std.proofs.Common.{◌≡◌, inl, inr, ℕ, ℤ, pos, suc, ◌+◌, ◌-◌, ◌*◌, ◌<◌, ◌≤◌, Bool, true, false, not, cond, eqb, ◌&&◌, ◌||◌, List, [], ◌∷◌, ◌++◌, length, take, drop, slice_range, Option, Some, None, IfSome, is_some, option_to_list, Result, Ok, Err, refl, ap, sym, ◌∙◌, subst, arith, append_assoc, length-append, length-drop, one-add, add-zero}
use Rattle.std.proofs.lemmas.Bool.Decides.{nat_tests, eqb_tells}
use Rattle.std.proofs.lemmas.List.{take-append-drop, length-take-le}
use Rattle.std.proofs.Math.Seq.{take-append_seam}
use Rattle.std.specs.List.{prefix_len}
use Rattle.std.proofs.lemmas.Bool.{false≢true}
use Rattle.std.proofs.lemmas.List.Sums.{prefix_len_is, prefix_len-le-length, prefix_len_passes, prefix_len_stops}
use Rattle.pawk_value.specs.declared.faults.Fault.{Fault}
use Rattle.pawk_value.specs.declared.faults.Fault.TheVariants.{Numeral}
use Rattle.pawk_value.specs.Bytes.{is_blank, is_digit, is_minus, is_sign, is_point, is_e}
use Rattle.pawk_value.specs.Range.{in_range_or_fault}
use Rattle.pawk_value.specs.Look.{has_digit, without_fraction, without_exponent}
use Rattle.pawk_value.specs.Numeral.{AreDigits, IsSign, Exponent, IsExponent, Parts, fraction_digits, IsProper, fraction_text, exponent_text, spelling, Spells, IsFirstPlace, IsNumeral, digits_value, signed, has_minus, number_of_parts, NumberIs, without, numeral, after_while, begins, without_sign, without_point, has_fraction, has_exponent, unsigned_number, number_of, NumeralLaw}

-- ---- bytes apart

pub digit_no_sign : (b : ℕ) → is_digit b ≡ true → is_sign b ≡ false
digit_no_sign b h = grind (arith, nat_tests)

digit_no_e : (b : ℕ) → is_digit b ≡ true → is_e b ≡ false
digit_no_e b h = grind (arith, nat_tests)

point_no_sign : (b : ℕ) (v : Bool) → (is_point b && v) ≡ true → is_sign b ≡ false
point_no_sign b v h = grind (arith, nat_tests)

pub e_no_digit : (b : ℕ) → is_e b ≡ true → is_digit b ≡ false
e_no_digit b h = grind (arith, nat_tests)

pub e_no_point : (b : ℕ) → is_e b ≡ true → is_point b ≡ false
e_no_point b h = grind (arith, nat_tests)

-- ---- digits in front

pub digits_prefix : (ds r : List ℕ) → AreDigits ds → prefix_len is_digit (ds ++ r) ≡ length ds + prefix_len is_digit r
digits_prefix [] r h = omega arith
digits_prefix (d ∷ ds) r h = rw h.0 (omega (arith, digits_prefix ds r h.1))

pub drop_front : (ds r : List ℕ) (n : ℕ) → drop (length ds + n) (ds ++ r) ≡ drop n r
drop_front [] r n = let e : length {A = ℕ} [] + n ≡ n = omega arith in rw e refl
drop_front (d ∷ ds) r n = let e : length (d ∷ ds) + n ≡ suc (length ds + n) = omega arith in rw e (drop_front ds r n)

pub digits_after : (ds r : List ℕ) → AreDigits ds → after_while is_digit (ds ++ r) ≡ after_while is_digit r
digits_after ds r h = rw (digits_prefix ds r h) (drop_front ds r (prefix_len is_digit r))

-- ---- the length of the longest numeral in front

abbrev sign_len : List ℕ → ℕ
sign_len t = cond (begins is_sign t) 1 0

abbrev fraction_len : List ℕ → ℕ
fraction_len v = cond (begins is_point v) (1 + prefix_len is_digit (drop 1 v)) 0

abbrev exponent_len : List ℕ → ℕ
exponent_len x = cond (has_exponent x) (1 + (sign_len (drop 1 x) + prefix_len is_digit (without_sign (drop 1 x)))) 0

abbrev tail_len : List ℕ → ℕ
tail_len u = prefix_len is_digit u + (fraction_len (after_while is_digit u) + exponent_len (drop (fraction_len (after_while is_digit u)) (after_while is_digit u)))

-- ---- what is spelled is read: the parts in front of a rest

no_minus : (u : List ℕ) → begins is_sign u ≡ false → begins is_minus u ≡ false
no_minus [] h = refl
no_minus (b ∷ u) h = grind (arith, nat_tests)

no_sign_length : (sg : Option ℕ) (u : List ℕ) → IfSome sg IsSign → begins is_sign u ≡ false → sign_len (option_to_list sg ++ u) ≡ length (option_to_list sg)
no_sign_length None u h n = rw n refl
no_sign_length (Some b) u h n = rw h refl

pub after_sign : (sg : Option ℕ) (u : List ℕ) → IfSome sg IsSign → begins is_sign u ≡ false → without_sign (option_to_list sg ++ u) ≡ u
after_sign None u h n = rw n refl
after_sign (Some b) u h n = rw h refl

minus_of : (sg : Option ℕ) (u : List ℕ) → begins is_sign u ≡ false → begins is_minus (option_to_list sg ++ u) ≡ has_minus sg
minus_of None u n = no_minus u n
minus_of (Some b) u n = refl

pub digits_begin : (ds r : List ℕ) → AreDigits ds → 0 < length ds → begins is_digit (ds ++ r) ≡ true
digits_begin [] r h l = absurd (omega arith)
digits_begin (d ∷ ds) r h l = h.0

pub no_sign : (u : List ℕ) → begins is_digit u ≡ true → begins is_sign u ≡ false
no_sign [] h = refl
no_sign (b ∷ u) h = digit_no_sign b h

exponent_len_of : (x : List ℕ) → has_exponent x ≡ true → exponent_len x ≡ 1 + (sign_len (drop 1 x) + prefix_len is_digit (without_sign (drop 1 x)))
exponent_len_of x h = rw h refl

pub e_len : (e : Exponent) (rest : List ℕ) → IsExponent e → (has_exponent (exponent_text (Some e) ++ rest) ≡ true) × (exponent_len (exponent_text (Some e) ++ rest) ≡ length (exponent_text (Some e)) + prefix_len is_digit rest)
e_len e rest h =
    let first = digits_begin e.digits rest h.digits h.some in
    let plain = no_sign (e.digits ++ rest) first in
    let skip = after_sign e.sign (e.digits ++ rest) h.sign plain in
    let long = no_sign_length e.sign (e.digits ++ rest) h.sign plain in
    let has : has_exponent (exponent_text (Some e) ++ rest) ≡ true = rw (h.letter, append_assoc, skip) first in
    (has, rw (exponent_len_of _ has, append_assoc, skip, long, digits_prefix e.digits rest h.digits) (omega (arith, length-append (option_to_list e.sign) e.digits)))

e_tail : (e : Exponent) (rest : List ℕ) → IsExponent e → tail_len (exponent_text (Some e) ++ rest) ≡ exponent_len (exponent_text (Some e) ++ rest)
e_tail e rest h = rw (e_no_digit e.letter h.letter, e_no_point e.letter h.letter) (omega arith)

whole_tail : (ds v : List ℕ) → AreDigits ds → tail_len (ds ++ v) ≡ length ds + tail_len v
whole_tail ds v h = rw (digits_after ds v h, digits_prefix ds v h) (omega arith)

point_tail : (ds w : List ℕ) → AreDigits ds → tail_len (46 ∷ (ds ++ w)) ≡ 1 + (length ds + (prefix_len is_digit w + exponent_len (after_while is_digit w)))
point_tail ds w h =
    let past : drop (1 + (length ds + prefix_len is_digit w)) (46 ∷ (ds ++ w)) ≡ after_while is_digit w = rw (one-add (length ds + prefix_len is_digit w)) (drop_front ds w (prefix_len is_digit w)) in
    rw (digits_prefix ds w h, past) (omega arith)

-- what follows the sign
abbrev pub unsigned_text : List ℕ → Option (List ℕ) → Option Exponent → List ℕ → List ℕ
unsigned_text whole fr ex rest = whole ++ (fraction_text fr ++ (exponent_text ex ++ rest))

-- it is at most the longest
tail_spelled : (whole : List ℕ) (fr : Option (List ℕ)) (ex : Option Exponent) (rest : List ℕ) → AreDigits whole → AreDigits (fraction_digits fr) → IfSome ex IsExponent → length whole + (length (fraction_text fr) + length (exponent_text ex)) ≤ tail_len (unsigned_text whole fr ex rest)
tail_spelled whole None None rest w f e = rw (whole_tail whole rest w) (omega arith)
tail_spelled whole None (Some e) rest w f h = rw (whole_tail whole (exponent_text (Some e) ++ rest) w, e_tail e rest h, (e_len e rest h).1) (omega arith)
tail_spelled whole (Some ds) None rest w f h = rw (whole_tail whole (46 ∷ (ds ++ rest)) w, point_tail ds rest f) (omega arith)
tail_spelled whole (Some ds) (Some e) rest w f h =
    let none : prefix_len is_digit (exponent_text (Some e) ++ rest) ≡ 0 = rw (e_no_digit e.letter h.letter) refl in
    rw (whole_tail whole (46 ∷ (ds ++ (exponent_text (Some e) ++ rest))) w, point_tail ds (exponent_text (Some e) ++ rest) f, none, (e_len e rest h).1) (omega arith)

-- a digit is before or after the point
pub digit_spelled : (whole : List ℕ) (fr : Option (List ℕ)) (x : List ℕ) → AreDigits whole → AreDigits (fraction_digits fr) → 0 < length whole + length (fraction_digits fr) → has_digit (whole ++ (fraction_text fr ++ x)) ≡ true
digit_spelled (d ∷ whole) fr x w f h = rw w.0 refl
digit_spelled [] None x w f h = absurd (omega arith)
digit_spelled [] (Some []) x w f h = absurd (omega arith)
digit_spelled [] (Some (d ∷ ds)) x w f h = f.0

pub no_sign_spelled : (u : List ℕ) → has_digit u ≡ true → begins is_sign u ≡ false
no_sign_spelled [] h = refl
no_sign_spelled (b ∷ u) h =
    elim (is_digit b) as (λ v. (is_digit b ≡ v) → is_sign b ≡ false) [ true ↦ (λ e. digit_no_sign b e) | false ↦ (λ e. point_no_sign b (begins is_digit u) (rw e at h)) ] refl

-- the text before a rest
pub read_back : (p : Parts) (rest : List ℕ) → spelling p ++ rest ≡ option_to_list p.sign ++ unsigned_text p.whole p.fraction p.exponent rest
read_back p rest = simp append_assoc

length-spelling : (p : Parts) → length (spelling p) ≡ length (option_to_list p.sign) + (length p.whole + (length (fraction_text p.fraction) + length (exponent_text p.exponent)))
length-spelling p = simp length-append

abbrev numeral_len : List ℕ → ℕ
numeral_len t = sign_len t + tail_len (without_sign t)

spelled : (p : Parts) (rest : List ℕ) → IsProper p → (has_digit (without_sign (spelling p ++ rest)) ≡ true) × (length (spelling p) ≤ numeral_len (spelling p ++ rest))
spelled p rest h =
    let u = unsigned_text p.whole p.fraction p.exponent rest in
    let digit : has_digit u ≡ true = digit_spelled p.whole p.fraction (exponent_text p.exponent ++ rest) h.whole h.fraction h.some in
    let plain : begins is_sign u ≡ false = no_sign_spelled u digit in
    let skip = after_sign p.sign (unsigned_text p.whole p.fraction p.exponent rest) h.sign plain in
    let long = no_sign_length p.sign (unsigned_text p.whole p.fraction p.exponent rest) h.sign plain in
    let tail = tail_spelled p.whole p.fraction p.exponent rest h.whole h.fraction h.exponent in
    rw (read_back p rest, skip, long) (digit, rw (length-spelling p) (omega arith))

-- ---- what is spelled, and is the longest, has the number

some_length : (ds : List ℕ) → 0 < length ds → eqb (length ds) 0 ≡ false
some_length ds h = grind (arith, nat_tests)

digits_number : (n : Bool) (whole v : List ℕ) → AreDigits whole → 0 < length whole → prefix_len is_digit v ≡ 0 → has_fraction v ≡ false → has_exponent (without_point v) ≡ false → unsigned_number n (whole ++ v) ≡ in_range_or_fault (signed n (digits_value whole))
digits_number n whole v w l p f e =
    let all : prefix_len is_digit (whole ++ v) ≡ length whole = rw (digits_prefix whole v w, p) (omega arith) in
    let here : drop (length whole) (whole ++ v) ≡ v = rw (← add-zero (length whole)) (drop_front whole v 0) in
    let some = some_length whole l in
    rw (all, here, f, some, e, take-append_seam whole v) refl

digits_exponent : (n : Bool) (whole v : List ℕ) → AreDigits whole → 0 < length whole → prefix_len is_digit v ≡ 0 → has_fraction v ≡ false → has_exponent (without_point v) ≡ true → unsigned_number n (whole ++ v) ≡ Err Numeral
digits_exponent n whole v w l p f e =
    let all : prefix_len is_digit (whole ++ v) ≡ length whole = rw (digits_prefix whole v w, p) (omega arith) in
    let here : drop (length whole) (whole ++ v) ≡ v = rw (← add-zero (length whole)) (drop_front whole v 0) in
    let some = some_length whole l in
    rw (all, here, f, some, e) refl

digits_fraction : (n : Bool) (whole v : List ℕ) → AreDigits whole → prefix_len is_digit v ≡ 0 → has_fraction v ≡ true → unsigned_number n (whole ++ v) ≡ Err Numeral
digits_fraction n whole v w p f =
    let all : prefix_len is_digit (whole ++ v) ≡ length whole = rw (digits_prefix whole v w, p) (omega arith) in
    let here : drop (length whole) (whole ++ v) ≡ v = rw (← add-zero (length whole)) (drop_front whole v 0) in
    rw (all, here, f) refl

no_point_here : (v : List ℕ) → fraction_len v ≡ 0 → begins is_point v ≡ false
no_point_here v h = elim (begins is_point v) as (λ b. cond b (1 + prefix_len is_digit (drop 1 v)) 0 ≡ 0 → b ≡ false) [ true ↦ (λ e. absurd (omega arith)) | false ↦ (λ _. refl) ] h

no_exponent_here : (v : List ℕ) → exponent_len v ≡ 0 → has_exponent v ≡ false
no_exponent_here v h = elim (has_exponent v) as (λ b. cond b (1 + (sign_len (drop 1 v) + prefix_len is_digit (without_sign (drop 1 v)))) 0 ≡ 0 → b ≡ false) [ true ↦ (λ e. absurd (omega arith)) | false ↦ (λ _. refl) ] h

no_digit_here : (v : List ℕ) → prefix_len is_digit v ≡ 0 → begins is_digit v ≡ false
no_digit_here [] h = refl
no_digit_here (b ∷ v) h = elim (is_digit b) as (λ x. cond x (1 + prefix_len is_digit v) 0 ≡ 0 → x ≡ false) [ true ↦ (λ e. absurd (omega arith)) | false ↦ (λ _. refl) ] h

-- a rest that does not lengthen the digits
bare_rest : (v : List ℕ) → tail_len v ≡ 0 → (prefix_len is_digit v ≡ 0) × (has_fraction v ≡ false) × (has_exponent (without_point v) ≡ false)
bare_rest v h =
    let p : prefix_len is_digit v ≡ 0 = omega arith in
    let h' = rw p at h in
    let f : begins is_point v ≡ false = no_point_here v (omega arith) in
    let h'' = rw f at h' in
    let e : has_exponent v ≡ false = no_exponent_here v (omega arith) in
    (p, rw f refl, rw f e)

-- the number of the parts after a sign
unsigned_spelled : (n : Bool) (whole : List ℕ) (fr : Option (List ℕ)) (ex : Option Exponent) (rest : List ℕ) → AreDigits whole → AreDigits (fraction_digits fr) → IfSome ex IsExponent → 0 < length whole + length (fraction_digits fr) → tail_len (unsigned_text whole fr ex rest) ≡ length whole + (length (fraction_text fr) + length (exponent_text ex)) → unsigned_number n (unsigned_text whole fr ex rest) ≡ cond ((eqb (length (fraction_digits fr)) 0) && not (is_some ex)) (in_range_or_fault (signed n (digits_value whole))) (Err Numeral)
unsigned_spelled n whole None None rest w f h l t =
    let bare = bare_rest rest (omega (arith, whole_tail whole rest w)) in
    digits_number n whole rest w (omega arith) bare.0 bare.1 bare.2
unsigned_spelled n whole None (Some e) rest w f h l t =
    digits_exponent n whole (exponent_text (Some e) ++ rest) w (omega arith)
    (rw (e_no_digit e.letter h.letter) refl) (rw (e_no_point e.letter h.letter) refl) (rw (e_no_point e.letter h.letter) (e_len e rest h).0)
unsigned_spelled n whole (Some []) None rest w f h l t =
    let none : prefix_len is_digit rest + exponent_len (after_while is_digit rest) ≡ 0 = omega (arith, point_tail [] rest tt, whole_tail whole (46 ∷ rest) w) in
    let p : prefix_len is_digit rest ≡ 0 = omega arith in
    let none' = rw p at none in
    let e : has_exponent rest ≡ false = no_exponent_here rest (omega arith) in
    digits_number n whole (46 ∷ rest) w (omega arith) refl (no_digit_here rest p) e
unsigned_spelled n whole (Some []) (Some e) rest w f h l t =
    digits_exponent n whole (46 ∷ (exponent_text (Some e) ++ rest)) w (omega arith) refl (rw (e_no_digit e.letter h.letter) refl) (e_len e rest h).0
unsigned_spelled n whole (Some (d ∷ ds)) ex rest w f h l t =
    let some : eqb (length (d ∷ ds)) 0 ≡ false = some_length (d ∷ ds) (omega arith) in
    rw some (digits_fraction n whole (46 ∷ ((d ∷ ds) ++ (exponent_text ex ++ rest))) w refl f.0)

numbered : (p : Parts) (rest : List ℕ) → IsProper p → length (spelling p) ≡ numeral_len (spelling p ++ rest) → unsigned_number (begins is_minus (spelling p ++ rest)) (without_sign (spelling p ++ rest)) ≡ number_of_parts p
numbered p rest h same =
    let u = unsigned_text p.whole p.fraction p.exponent rest in
    let digit : has_digit u ≡ true = digit_spelled p.whole p.fraction (exponent_text p.exponent ++ rest) h.whole h.fraction h.some in
    let plain : begins is_sign u ≡ false = no_sign_spelled u digit in
    let skip = after_sign p.sign u h.sign plain in
    let long = no_sign_length p.sign u h.sign plain in
    let minus = minus_of p.sign u plain in
    let same' = rw (length-spelling p, read_back p rest, skip, long) at same in
    rw (read_back p rest, skip, minus) (unsigned_spelled (has_minus p.sign) p.whole p.fraction p.exponent rest h.whole h.fraction h.exponent h.some (omega arith))

-- ---- where a digit is in front of it all, a numeral is there

-- the digits in front and what follows them
digits_in_front : (s : List ℕ) → (ds : List ℕ) × (r : List ℕ) × AreDigits ds × (begins is_digit r ≡ false) × (s ≡ ds ++ r)
digits_in_front [] = ([], [], tt, refl, refl)
digits_in_front (b ∷ s) =
    let more = digits_in_front s in
    elim (is_digit b) as (λ v. (is_digit b ≡ v) → (ds : List ℕ) × (r : List ℕ) × AreDigits ds × (begins is_digit r ≡ false) × (b ∷ s ≡ ds ++ r)) [
      | true ↦ (λ e. (b ∷ more.0, more.1, (e, more.2), more.3, ap (λ l. b ∷ l) more.4))
      | false ↦ (λ e. ([], b ∷ s, tt, e, refl))
    ] refl

pub none_in_front : (r : List ℕ) → begins is_digit r ≡ false → prefix_len is_digit r ≡ 0
none_in_front [] h = refl
none_in_front (b ∷ r) h = rw h refl

pub after_front : (s ds r : List ℕ) → AreDigits ds → begins is_digit r ≡ false → s ≡ ds ++ r → after_while is_digit s ≡ r
after_front s ds r d n e = let none = none_in_front r n in rw (e, digits_after ds r d) (rw none refl)

sign_in_front : (s : List ℕ) → (sg : Option ℕ) × IfSome sg IsSign × (s ≡ option_to_list sg ++ without_sign s) × (sign_len s ≡ length (option_to_list sg))
sign_in_front [] = (None, tt, refl, refl)
sign_in_front (b ∷ s) =
    elim (is_sign b) as (λ v. (is_sign b ≡ v) → (sg : Option ℕ) × IfSome sg IsSign × (b ∷ s ≡ option_to_list sg ++ cond v s (b ∷ s)) × (cond v 1 0 ≡ length (option_to_list sg))) [
      | true ↦ (λ e. (Some b, e, refl, refl))
      | false ↦ (λ e. (None, tt, refl, refl))
    ] refl

some_digits : (ds r : List ℕ) → begins is_digit (ds ++ r) ≡ true → begins is_digit r ≡ false → 0 < length ds
some_digits [] r h n = absurd (cc)
some_digits (d ∷ ds) r h n = omega arith

pub both_true : (a b : Bool) → (a && b) ≡ true → (a ≡ true) × (b ≡ true)
both_true true b h = (refl, h)
both_true false b h = absurd cc

exponent_here : (b : ℕ) (y : List ℕ) → has_exponent (b ∷ y) ≡ true → (ex : Option Exponent) × (r : List ℕ) × IfSome ex IsExponent × (b ∷ y ≡ exponent_text ex ++ r) × (length (exponent_text ex) ≡ exponent_len (b ∷ y)) × (without_exponent (b ∷ y) ≡ r)
exponent_here b y h =
    let both = both_true (is_e b) (begins is_digit (without_sign y)) h in
    let sg = sign_in_front y in
    let ds = digits_in_front (without_sign y) in
    let first = rw ds.4 at both.1 in
    let some : 0 < length ds.0 = some_digits ds.0 ds.1 first ds.3 in
    let e : Exponent = record { letter = b; sign = sg.0; digits = ds.0 } in
    let is : IsExponent e = record { letter = both.0; sign = sg.1; digits = ds.2; some = some } in
    let text : y ≡ (option_to_list sg.0 ++ ds.0) ++ ds.1 = sg.2 ∙ ap (λ l. option_to_list sg.0 ++ l) ds.4 ∙ sym (append_assoc (option_to_list sg.0) ds.0 ds.1) in
    let digits : prefix_len is_digit (without_sign y) ≡ length ds.0 = ap (prefix_len is_digit) ds.4 ∙ digits_prefix ds.0 ds.1 ds.2 ∙ (let n = none_in_front ds.1 ds.3 in omega arith) in
    let past : after_while is_digit (without_sign y) ≡ ds.1 = after_front (without_sign y) ds.0 ds.1 ds.2 ds.3 ds.4 in
    (Some e, ds.1, is, ap (λ l. b ∷ l) text, rw (exponent_len_of (b ∷ y) h, sg.3, digits) (omega (arith, length-append (option_to_list sg.0) ds.0)), rw h past)

exponent_in_front : (x : List ℕ) → (ex : Option Exponent) × (r : List ℕ) × IfSome ex IsExponent × (x ≡ exponent_text ex ++ r) × (length (exponent_text ex) ≡ exponent_len x) × (without_exponent x ≡ r)
exponent_in_front [] = (None, [], tt, refl, refl, refl)
exponent_in_front (b ∷ y) =
    elim (has_exponent (b ∷ y)) as (λ v. (has_exponent (b ∷ y) ≡ v) → (ex : Option Exponent) × (r : List ℕ) × IfSome ex IsExponent × (b ∷ y ≡ exponent_text ex ++ r) × (length (exponent_text ex) ≡ exponent_len (b ∷ y)) × (without_exponent (b ∷ y) ≡ r)) [
      | true ↦ (λ e. exponent_here b y e)
      | false ↦ (λ e. (None, b ∷ y, tt, refl, rw e refl, rw e refl))
    ] refl

-- a fraction, and what follows it
fraction_in_front : (v : List ℕ) → (fr : Option (List ℕ)) × (r : List ℕ) × AreDigits (fraction_digits fr) × (v ≡ fraction_text fr ++ r) × (length (fraction_text fr) ≡ fraction_len v) × (without_fraction v ≡ r)
fraction_in_front [] = (None, [], tt, refl, refl, refl)
fraction_in_front (b ∷ v) =
    let ds = digits_in_front v in
    let digits : prefix_len is_digit v ≡ length ds.0 = ap (prefix_len is_digit) ds.4 ∙ digits_prefix ds.0 ds.1 ds.2 ∙ (let n = none_in_front ds.1 ds.3 in omega arith) in
    elim (eqb_tells b 46) [
      | inl y ↦ (Some ds.0, ds.1, ds.2, rw y.1 (ap (λ l. 46 ∷ l) ds.4), rw (y.0, digits) (omega arith), rw y.0 (after_front v ds.0 ds.1 ds.2 ds.3 ds.4))
      | inr f ↦ (None, b ∷ v, tt, refl, rw f.0 refl, rw f.0 refl)
    ]

some_prefix : (u : List ℕ) → begins is_digit u ≡ true → 1 ≤ prefix_len is_digit u
some_prefix [] h = absurd cc
some_prefix (b ∷ u) h = rw h (omega arith)

some_fraction : (v : List ℕ) → has_fraction v ≡ true → 2 ≤ fraction_len v
some_fraction v h =
    let both = both_true (begins is_point v) (begins is_digit (drop 1 v)) h in
    let more = some_prefix (drop 1 v) both.1 in
    rw both.0 (omega arith)

some_point : (fr : Option (List ℕ)) → length (fraction_text fr) ≤ 1 + length (fraction_digits fr)
some_point None = omega arith
some_point (Some ds) = omega arith

some_text : (fr : Option (List ℕ)) → length (fraction_digits fr) ≤ length (fraction_text fr)
some_text None = omega arith
some_text (Some ds) = omega arith

-- a digit in front of the point, or after it
pub some_digit : (u : List ℕ) → has_digit u ≡ true → 2 ≤ 2 * prefix_len is_digit u + fraction_len (after_while is_digit u)
some_digit u h =
    elim (begins is_digit u) as (λ v. (begins is_digit u ≡ v) → 2 ≤ 2 * prefix_len is_digit u + fraction_len (after_while is_digit u)) [
      | true ↦ (λ e. let some = some_prefix u e in omega arith)
      | false ↦ (λ e. let none = none_in_front u e in rw none (let f = rw e at h in let more = some_fraction u f in omega arith))
    ] refl

parts_in_front : (u ds v : List ℕ) (fr : Option (List ℕ)) (x : List ℕ) (ex : Option Exponent) (r : List ℕ) → AreDigits ds → begins is_digit v ≡ false → u ≡ ds ++ v → v ≡ fraction_text fr ++ x → length (fraction_text fr) ≡ fraction_len v → x ≡ exponent_text ex ++ r → length (exponent_text ex) ≡ exponent_len x → has_digit u ≡ true → (0 < length ds + length (fraction_digits fr)) × (u ≡ unsigned_text ds fr ex r) × (length ds + (length (fraction_text fr) + length (exponent_text ex)) ≡ tail_len u)
parts_in_front u ds v fr x ex r d n eu ev lf ex_is le h =
    let none = none_in_front v n in
    let digits : prefix_len is_digit u ≡ length ds = rw (eu, digits_prefix ds v d) (omega arith) in
    let after : after_while is_digit u ≡ v = rw (eu, digits_after ds v d) (rw none refl) in
    let past : drop (fraction_len v) v ≡ x = rw (← lf) (rw ev (rw (← add-zero (length (fraction_text fr))) (drop_front (fraction_text fr) x 0))) in
    let some = rw (after, digits) at (some_digit u h) in
    let point = some_point fr in
    (omega arith, eu ∙ ap (λ l. ds ++ l) (ev ∙ ap (λ l. fraction_text fr ++ l) ex_is), rw (after, digits, past) (omega arith))

tail_in_front : (u : List ℕ) → has_digit u ≡ true → (whole : List ℕ) × (fr : Option (List ℕ)) × (ex : Option Exponent) × (r : List ℕ) × AreDigits whole × AreDigits (fraction_digits fr) × IfSome ex IsExponent × (0 < length whole + length (fraction_digits fr)) × (u ≡ unsigned_text whole fr ex r) × (length whole + (length (fraction_text fr) + length (exponent_text ex)) ≡ tail_len u) × (without_exponent (without_fraction (after_while is_digit u)) ≡ r)
tail_in_front u h =
    let ds = digits_in_front u in
    let fr = fraction_in_front ds.1 in
    let ex = exponent_in_front fr.1 in
    let all = parts_in_front u ds.0 ds.1 fr.0 fr.1 ex.0 ex.1 ds.2 ds.3 ds.4 fr.3 fr.4 ex.3 ex.4 h in
    let rest = ap without_exponent (ap without_fraction (after_front u ds.0 ds.1 ds.2 ds.3 ds.4) ∙ fr.5) ∙ ex.5 in
    (ds.0, fr.0, ex.0, ex.1, ds.2, fr.2, ex.2, all.0, all.1, all.2, rest)

-- the longest numeral in front
pub numeral_in_front : (t : List ℕ) → has_digit (without_sign t) ≡ true → (p : Parts) × (r : List ℕ) × IsProper p × (t ≡ spelling p ++ r) × (length (spelling p) ≡ numeral_len t) × (without_exponent (without_fraction (after_while is_digit (without_sign t))) ≡ r)
numeral_in_front t h =
    let sg = sign_in_front t in
    let tail = tail_in_front (without_sign t) h in
    let p : Parts = record { sign = sg.0; whole = tail.0; fraction = tail.1; exponent = tail.2 } in
    let is : IsProper p = record { sign = sg.1; whole = tail.4; fraction = tail.5; exponent = tail.6; some = tail.7 } in
    (p, tail.3, is, sg.2 ∙ ap (λ l. option_to_list sg.0 ++ l) tail.8 ∙ sym (read_back p tail.3), length-spelling p ∙ rw (sg.3, ← tail.9) refl, tail.10)

not_either : (u : List ℕ) → has_digit u ≡ false → (begins is_digit u ≡ false) × (has_fraction u ≡ false)
not_either u h = elim (begins is_digit u) as (λ v. (v || has_fraction u) ≡ false → (v ≡ false) × (has_fraction u ≡ false)) [ true ↦ (λ e. absurd cc) | false ↦ (λ e. (refl, e)) ] h

no_numeral : (n : Bool) (u : List ℕ) → has_digit u ≡ false → unsigned_number n u ≡ Ok (pos 0)
no_numeral n u h =
    let both = not_either u h in
    let none = none_in_front u both.0 in
    rw (none, both.1) refl

-- ---- places

first_place : (s : List ℕ) → IsFirstPlace s (prefix_len is_blank s)
first_place s = record {
  within = prefix_len-le-length is_blank s;
  before = λ k h. prefix_len_passes is_blank s k 0 h;
  here = λ h. prefix_len_stops is_blank s 0 h;
}

same_place : (s : List ℕ) (i : ℕ) → IsFirstPlace s i → i ≡ prefix_len is_blank s
same_place s i h = sym (prefix_len_is is_blank s i 0 h.within h.before h.here)

-- a numeral has a digit
numeral_is_some : (p : Parts) → IsProper p → 0 < length (spelling p)
numeral_is_some p h =
    let some = some_text p.fraction in
    rw (length-spelling p) (let l = h.some in omega arith)

-- a numeral from i to j, as the beginning of what follows i
from_place : (s : List ℕ) (i j : ℕ) (p : Parts) → j ≤ length s → Spells (slice_range s i j) p → (drop i s ≡ spelling p ++ drop (j - i) (drop i s)) × (length (spelling p) ≡ j - i)
from_place s i j p w h =
    let text : drop i s ≡ spelling p ++ drop (j - i) (drop i s) = sym (rw (← h.1) (take-append-drop (j - i) (drop i s))) in
    let within : j - i ≤ length (drop i s) = rw (length-drop i s) (omega arith) in
    (text, sym (ap length h.1) ∙ length-take-le (j - i) (drop i s) within)

-- what follows the blanks in front
abbrev past_blanks : List ℕ → List ℕ
past_blanks s = after_while is_blank s

pub spelled_here : (t : List ℕ) (p : Parts) (r : List ℕ) → IsProper p → t ≡ spelling p ++ r → (has_digit (without_sign t) ≡ true) × (length (spelling p) ≤ numeral_len t)
spelled_here t p r h e = rw e (spelled p r h)

numbered_here : (t : List ℕ) (p : Parts) (r : List ℕ) → IsProper p → t ≡ spelling p ++ r → length (spelling p) ≡ numeral_len t → unsigned_number (begins is_minus t) (without_sign t) ≡ number_of_parts p
numbered_here t p r h e l = rw e (numbered p r h (rw e at l))

short_front : (t a r : List ℕ) → t ≡ a ++ r → length a ≤ length t
short_front t a r e = rw e (omega (arith, length-append a r))

front_is : (t a r : List ℕ) (n : ℕ) → t ≡ a ++ r → length a ≡ n → take n t ≡ a
front_is t a r n e l = rw (e, ← l) (take-append_seam a r)

-- the numeral that a digit makes
there_is : (s : List ℕ) → has_digit (without_sign (past_blanks s)) ≡ true → (p : Parts) × IsNumeral s (prefix_len is_blank s) (prefix_len is_blank s + numeral_len (past_blanks s)) × Spells (slice_range s (prefix_len is_blank s) (prefix_len is_blank s + numeral_len (past_blanks s))) p
there_is s h =
    let i = prefix_len is_blank s in
    let t = drop i s in
    let found = numeral_in_front t h in
    let p = found.0 in
    let short : length (spelling p) ≤ length t = short_front t (spelling p) found.1 found.3 in
    let bound = prefix_len-le-length is_blank s in
    let same : take (numeral_len t) t ≡ spelling p = front_is t (spelling p) found.1 (numeral_len t) found.3 found.4 in
    let count : (i + numeral_len t) - i ≡ numeral_len t = omega arith in
    let spells : Spells (slice_range s i (i + numeral_len t)) p = (found.2, rw count same) in (
      p,
      record {
        first = first_place s;
        within = omega (arith, length-drop i s);
        form = (p, spells);
        longest = λ k q w sp. let from = from_place s i k q w sp in let most = spelled_here t q _ sp.0 from.0 in omega arith;
      },
      spells,
    )

-- a numeral that is there is the one that a digit makes, and has its number
is_read : (s : List ℕ) (i j : ℕ) (p : Parts) → IsNumeral s i j → Spells (slice_range s i j) p → unsigned_number (begins is_minus (past_blanks s)) (without_sign (past_blanks s)) ≡ number_of_parts p
is_read s i j p h sp =
    let place = same_place s i h.first in
    let from = from_place s i j p h.within sp in
    let here : past_blanks s ≡ spelling p ++ drop (j - i) (drop i s) = sym (ap (λ n. drop n s) place) ∙ from.0 in
    let most = spelled_here (past_blanks s) p _ sp.0 here in
    let other = there_is s most.0 in
    let P : ℕ → Type 0 = λ n. Spells (slice_range s n (prefix_len is_blank s + numeral_len (past_blanks s))) other.0 in
    let least = h.longest _ other.0 other.1.within (subst P (sym place) other.2) in
    numbered_here (past_blanks s) p _ sp.0 here (omega arith)

not_there : (s : List ℕ) → has_digit (without_sign (past_blanks s)) ≡ false → (i j : ℕ) → IsNumeral s i j → ⊥
not_there s f i j h =
    let place = same_place s i h.first in
    let from = from_place s i j h.form.0 h.within h.form.1 in
    let here : past_blanks s ≡ spelling h.form.0 ++ drop (j - i) (drop i s) = sym (ap (λ n. drop n s) place) ∙ from.0 in
    let most = spelled_here (past_blanks s) h.form.0 _ h.form.1.0 here in
    false≢true (sym f ∙ most.0)

unique_there : (s : List ℕ) → has_digit (without_sign (past_blanks s)) ≡ true → (r : Result ℤ Fault) → NumberIs s r → r ≡ number_of s
unfolding number_of
unique_there s h r (without none e) = absurd (none _ _ (there_is s h).1)
unique_there s h r (numeral i j p is sp e) = e ∙ sym (is_read s i j p is sp)

unique_not : (s : List ℕ) → has_digit (without_sign (past_blanks s)) ≡ false → (r : Result ℤ Fault) → NumberIs s r → r ≡ number_of s
unfolding number_of
unique_not s h r (without none e) = e ∙ sym (no_numeral (begins is_minus (past_blanks s)) (without_sign (past_blanks s)) h)
unique_not s h r (numeral i j p is sp e) = absurd (not_there s h i j is)

law_at : (s : List ℕ) (v : Bool) → has_digit (without_sign (past_blanks s)) ≡ v → NumeralLaw s
unfolding number_of
law_at s true h =
    let found = there_is s h in
    let value = is_read s _ _ found.0 found.1 found.2 in
    (numeral _ _ found.0 found.1 found.2 value, unique_there s h)
law_at s false h =
    let value = no_numeral (begins is_minus (past_blanks s)) (without_sign (past_blanks s)) h in
    (without (not_there s h) value, unique_not s h)

pub numeral_law : (s : List ℕ) → NumeralLaw s
numeral_law s = law_at s (has_digit (without_sign (past_blanks s))) refl
