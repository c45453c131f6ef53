-- Words that begin among bytes that are looked at side by side.
use mir.Val.{bool_byte}
use Rattle.std.proofs.Common.{◌≡◌, ℕ, zero, suc, ◌+◌, ◌-◌, ◌%◌, ◌^◌, ◌<◌, ◌≤◌, Bool, true, false, not, cond, eqb, ◌&&◌, ◌||◌, bit_and, bit_or, count_ones, List, [], ◌∷◌, map, length, take, drop, get_or, replicate, refl, ap, ap₂, arith, sym, ◌∙◌, zero-add}
use Rattle.std.proofs.lemmas.List.{drop_more, drop-drop, get_or-drop, length-drop, length-map}
use Rattle.std.proofs.lemmas.Simd.{length-zip2, mask_l-mod, ones-mask_l_cons, zip2_of_maps, zip2_splat}
use lib.Count.{ones}
use lib.Lanes.{mask_l, top, zip2}
use Rattle.pawk_value.specs.Bytes.{is_blank}
use Rattle.pawk_fields.specs.Fields.{is_not_blank}
use Rattle.pawk_fields.specs.Words.{fields_left, word_begins}
use Rattle.pawk_fields.proofs.FieldWalkLemmas.{count_on}

-- ---- lane by lane

byte_is : (b : Bool) → bool_byte b ≡ cond b 1 0
byte_is true = refl
byte_is false = refl

-- all bits where a lane is the byte, and where it is not
abbrev pub equal_lane : ℕ → ℕ → ℕ
equal_lane a b = cond (eqb a b) 255 0

abbrev pub other_lane : ℕ → ℕ → ℕ
other_lane a b = cond (not (eqb a b)) 255 0

-- all bits where a lane is a blank, and where it is none
abbrev pub blank_lane : ℕ → ℕ
blank_lane a = bit_or (equal_lane a 32) (bit_or (equal_lane a 9) (equal_lane a 10))

abbrev pub no_blank_lane : ℕ → ℕ
no_blank_lane a = bit_and (other_lane a 32) (bit_and (other_lane a 9) (other_lane a 10))

pub either_lane : (p q r : Bool) → bit_or (cond p 255 0) (bit_or (cond q 255 0) (cond r 255 0)) ≡ cond (p || (q || r)) 255 0
either_lane true true true = refl
either_lane true true false = refl
either_lane true false true = refl
either_lane true false false = refl
either_lane false true true = refl
either_lane false true false = refl
either_lane false false true = refl
either_lane false false false = refl

neither_lane : (p q r : Bool) → bit_and (cond (not p) 255 0) (bit_and (cond (not q) 255 0) (cond (not r) 255 0)) ≡ cond (not (p || (q || r))) 255 0
neither_lane true true true = refl
neither_lane true true false = refl
neither_lane true false true = refl
neither_lane true false false = refl
neither_lane false true true = refl
neither_lane false true false = refl
neither_lane false false true = refl
neither_lane false false false = refl

both_lanes : (p q : Bool) → top 7 (bit_and (cond p 255 0) (cond q 255 0)) ≡ p && q
both_lanes true true = refl
both_lanes true false = refl
both_lanes false true = refl
both_lanes false false = refl

-- a word begins with b after a
begins_lane : (a b : ℕ) → top 7 (bit_and (blank_lane a) (no_blank_lane b)) ≡ is_blank a && is_not_blank b
begins_lane a b =
    ap₂ (λ x y. top 7 (bit_and x y)) (either_lane (eqb a 32) (eqb a 9) (eqb a 10)) (neither_lane (eqb b 32) (eqb b 9) (eqb b 10))
    ∙ both_lanes (is_blank a) (is_not_blank b)

abbrev pub begins_mask : List ℕ → List ℕ → List Bool
begins_mask before here = map (top 7) (zip2 bit_and (map blank_lane before) (map no_blank_lane here))

ones_begins : (before here : List ℕ) → count_ones (mask_l (begins_mask before here)) ≡ word_begins before here
unfolding ones
ones_begins [] here = refl
ones_begins (a ∷ before) [] = refl
ones_begins (a ∷ before) (b ∷ here) =
    ones-mask_l_cons (top 7 (bit_and (blank_lane a) (no_blank_lane b))) (begins_mask before here)
    ∙ ap₂ (λ m n. cond m 1 0 + n) (begins_lane a b) (ones_begins before here)

-- the mask that is made of two vectors has a bit for each word that begins
pub lanes_tell : (before here : List ℕ) → length before ≡ 16 → length here ≡ 16
    → count_ones (mask_l (map (top 7) (zip2 bit_and (zip2 bit_or (zip2 equal_lane before (replicate 16 32)) (zip2 bit_or (zip2 equal_lane before (replicate 16 9)) (zip2 equal_lane before (replicate 16 10)))) (zip2 bit_and (zip2 other_lane here (replicate 16 32)) (zip2 bit_and (zip2 other_lane here (replicate 16 9)) (zip2 other_lane here (replicate 16 10)))))) % 2 ^ 64) ≡ word_begins before here
lanes_tell before here lb lh =
    let blanks = zip2_of_maps bit_or (λ a. equal_lane a 32) (λ a. bit_or (equal_lane a 9) (equal_lane a 10)) before (zip2_splat equal_lane before 16 32 lb)
    (zip2_of_maps bit_or (λ a. equal_lane a 9) (λ a. equal_lane a 10) before (zip2_splat equal_lane before 16 9 lb) (zip2_splat equal_lane before 16 10 lb)) in
    let others = zip2_of_maps bit_and (λ a. other_lane a 32) (λ a. bit_and (other_lane a 9) (other_lane a 10)) here (zip2_splat other_lane here 16 32 lh)
    (zip2_of_maps bit_and (λ a. other_lane a 9) (λ a. other_lane a 10) here (zip2_splat other_lane here 16 9 lh) (zip2_splat other_lane here 16 10 lh)) in
    let one = length-map (zip2 bit_and (map blank_lane before) (map no_blank_lane here)) (top 7) in
    let two = length-zip2 bit_and (map blank_lane before) (map no_blank_lane here) (length-map before blank_lane ∙ lb ∙ sym (length-map here no_blank_lane ∙ lh)) in
    let three = length-map before blank_lane in
    ap₂ (λ x y. count_ones (mask_l (map (top 7) (zip2 bit_and x y)) % 2 ^ 64)) blanks others
    ∙ ap count_ones (mask_l-mod (begins_mask before here) 64 (omega (arith, one, two, three, lb)))
    ∙ ones_begins before here

-- no more words begin than there are bytes
pub begins_bound : (before here : List ℕ) → word_begins before here ≤ length here
begins_bound [] here = omega arith
begins_bound (a ∷ before) [] = omega arith
begins_bound (a ∷ before) (b ∷ here) =
    let more = begins_bound before here in
    elim (is_blank a && is_not_blank b) as (λ v. cond v 1 0 + word_begins before here ≤ length (b ∷ here)) [ true ↦ omega (arith, more) | false ↦ omega (arith, more) ]

-- ---- what is left after them

-- a byte goes by
begin_on : (a b : ℕ) (s : List ℕ) → length (fields_left (is_blank a) (b ∷ s)) ≡ cond (is_blank a && is_not_blank b) 1 0 + length (fields_left (is_blank b) s)
begin_on a b s =
    let total = length (fields_left (is_blank a) (b ∷ s)) in
    let byte : 0 < length (b ∷ s) = omega arith in
    let on = count_on total (b ∷ s) 0 0 (cond (is_blank a && is_not_blank b) 1 0) (is_blank a) (is_blank b) byte refl (sym (byte_is (is_blank a && is_not_blank b))) (zero-add total) in
    omega (arith, on)

-- n bytes go by
chunk_on : (n a : ℕ) (s : List ℕ) → n ≤ length s → length (fields_left (is_blank a) s) ≡ word_begins (take n (a ∷ s)) (take n s) + length (fields_left (is_blank (get_or (a ∷ s) n 0)) (drop n s))
chunk_on zero a s le = sym (zero-add _)
chunk_on (suc n) a [] le = absurd (omega arith)
chunk_on (suc n) a (b ∷ s) le =
    let here = begin_on a b s in
    let more = chunk_on n b s (omega arith) in
    omega (arith, here, more)

-- the same at a place of a text
pub place_on : (total : ℕ) (s : List ℕ) (place count begun lanes : ℕ) → 1 ≤ place → place + lanes ≤ length s → begun ≡ word_begins (take lanes (drop (place - 1) s)) (take lanes (drop place s))
    → count + length (fields_left (is_blank (get_or s (place - 1) 0)) (drop place s)) ≡ total
    → (count + begun) + length (fields_left (is_blank (get_or s ((place + lanes) - 1) 0)) (drop (place + lanes) s)) ≡ total
place_on total s place count begun lanes low high is left =
    let a = get_or s (place - 1) 0 in
    let next : (place - 1) + 1 ≡ place = omega arith in
    let cons : drop (place - 1) s ≡ a ∷ drop place s = drop_more s (place - 1) 0 (omega arith) ∙ ap (λ k. a ∷ drop k s) next in
    let on = chunk_on lanes a (drop place s) (omega (arith, length-drop place s)) in
    let at : (place - 1) + lanes ≡ (place + lanes) - 1 = omega arith in
    let last : get_or (a ∷ drop place s) lanes 0 ≡ get_or s ((place + lanes) - 1) 0 =
    ap (λ l. get_or l lanes 0) (sym cons) ∙ get_or-drop (place - 1) s lanes 0 ∙ ap (λ k. get_or s k 0) at in
    let begins : word_begins (take lanes (a ∷ drop place s)) (take lanes (drop place s)) ≡ begun =
    ap (λ l. word_begins (take lanes l) (take lanes (drop place s))) (sym cons) ∙ sym is in
    let tail = ap₂ (λ b l. length (fields_left (is_blank b) l)) last (drop-drop lanes place s) in
    omega (arith, left, on, begins, tail)
