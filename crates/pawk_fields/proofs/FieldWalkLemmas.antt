-- What is left of a text's fields while its bytes go by.
use mir.Val.{bool_byte}
use Rattle.std.proofs.Common.{◌≡◌, ℕ, zero, suc, ◌+◌, ◌-◌, ◌<◌, ◌≤◌, Bool, true, false, not, ◌&&◌, List, [], ◌∷◌, length, take, drop, get_or, Some, None, slice_get, slice_index_or, ◌⊎◌, inl, inr, ⊎_elim, refl, ap, arith, sym, ◌∙◌, one-add}
use Rattle.std.proofs.Math.Bool.{and-false}
use Rattle.std.proofs.lemmas.List.{drop_all, drop_more, drop-drop, length-drop}
use Rattle.std.proofs.lemmas.Option.{slice_get_past}
use Rattle.std.specs.List.{prefix_len}
use Rattle.pawk_value.specs.Bytes.{is_blank}
use Rattle.pawk_fields.specs.Fields.{is_not_blank, blank_fields}
use Rattle.pawk_fields.specs.Words.{fields_left}
use Rattle.pawk_fields.proofs.FieldsLemmas.{fields_of_word}

-- a blank is no part of a field
pub left_past_blank : (after_blank : Bool) (b : ℕ) (s : List ℕ) → is_blank b ≡ true → fields_left after_blank (b ∷ s) ≡ blank_fields s
left_past_blank true b s e = rw e refl
left_past_blank false b s e = rw e (rw e refl)

-- within a word
pub left_in_word : (b : ℕ) (s : List ℕ) → is_blank b ≡ false → fields_left false (b ∷ s) ≡ fields_left false s
left_in_word b s e = rw (e, one-add) refl

-- a word begins
pub left_at_word : (b : ℕ) (s : List ℕ) → is_blank b ≡ false → blank_fields (b ∷ s) ≡ take (prefix_len is_not_blank (b ∷ s)) (b ∷ s) ∷ fields_left false s
left_at_word b s e = fields_of_word b s e ∙ ap (λ l. take (prefix_len is_not_blank (b ∷ s)) (b ∷ s) ∷ l) (left_in_word b s e)

-- a byte goes by: a word begins with it, or none does
left_step : (s : List ℕ) (i r : ℕ) (after_blank blank : Bool) → i < length s → blank ≡ is_blank (slice_index_or s i 0) → r ≡ bool_byte (after_blank && not blank)
    → ((r ≡ 0) × (fields_left after_blank (drop i s) ≡ fields_left blank (drop (i + 1) s)))
    ⊎ ((r ≡ 1) × (fields_left after_blank (drop i s) ≡ take (prefix_len is_not_blank (drop i s)) (drop i s) ∷ fields_left blank (drop (i + 1) s)))
left_step s i r after_blank true lt is one =
    inl (one ∙ ap bool_byte (and-false after_blank), ap (fields_left after_blank) (drop_more s i 0 lt) ∙ left_past_blank after_blank (get_or s i 0) (drop (i + 1) s) (sym is))
left_step s i r true false lt is one =
    let here : drop i s ≡ get_or s i 0 ∷ drop (i + 1) s = drop_more s i 0 lt in
    inr (one, rw here (left_at_word (get_or s i 0) (drop (i + 1) s) (sym is)))
left_step s i r false false lt is one =
    inl (one, ap (fields_left false) (drop_more s i 0 lt) ∙ left_in_word (get_or s i 0) (drop (i + 1) s) (sym is))

-- how many fields are left
pub count_on : (total : ℕ) (s : List ℕ) (i n r : ℕ) (after_blank blank : Bool) → i < length s → blank ≡ is_blank (slice_index_or s i 0) → r ≡ bool_byte (after_blank && not blank) → n + length (fields_left after_blank (drop i s)) ≡ total
    → (n + r) + length (fields_left blank (drop (i + 1) s)) ≡ total
count_on total s i n r after_blank blank lt is one left =
    ⊎_elim
    (λ x. omega (arith, x.0, ap length x.1, left))
    (λ x. omega (arith, x.0, ap length x.1, left))
    (left_step s i r after_blank blank lt is one)

-- a byte begins at most one word
pub one_at_most : (b : Bool) (r : ℕ) → r ≡ bool_byte b → r ≤ 1
one_at_most true r is = omega (arith, is)
one_at_most false r is = omega (arith, is)

-- no field is left of nothing
left_of_nothing : (after_blank : Bool) → fields_left after_blank [] ≡ []
left_of_nothing true = refl
left_of_nothing false = refl

-- at the end as many have begun as there are
pub all_begun : (total : ℕ) (s : List ℕ) (i n : ℕ) (after_blank : Bool) → length s ≤ i → n + length (fields_left after_blank (drop i s)) ≡ total → n ≡ total
all_begun total s i n after_blank end left =
    let none = ap length (ap (fields_left after_blank) (drop_all i s end) ∙ left_of_nothing after_blank) in omega (arith, none, left)
