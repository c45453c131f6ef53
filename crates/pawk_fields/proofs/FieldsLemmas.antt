-- How the fields of a text are cut off one by one.
use Rattle.std.proofs.Common.{◌≡◌, ℕ, ◌+◌, true, false, not, cond, List, [], ◌∷◌, take, drop, refl, ap, arith, sym, one-add}
use Rattle.std.specs.List.{prefix_len, onto_first}
use Rattle.pawk_value.specs.Bytes.{is_blank}
use Rattle.pawk_fields.specs.Fields.{is_not_blank, blank_fields}

-- a word in front, and the fields after it
pub fields_of_word : (b : ℕ) (s : List ℕ) → is_blank b ≡ false → blank_fields (b ∷ s) ≡ take (prefix_len is_not_blank (b ∷ s)) (b ∷ s) ∷ blank_fields (drop (prefix_len is_not_blank (b ∷ s)) (b ∷ s))
fields_of_word b [] e = rw e refl
fields_of_word b (x ∷ s) e =
    let more = fields_of_word x s in
    rw e (elim (is_blank x) as (λ v. (v ≡ is_blank x) → cond (not v) (onto_first b (blank_fields (x ∷ s))) ((b ∷ []) ∷ blank_fields (x ∷ s)) ≡ take (1 + prefix_len is_not_blank (x ∷ s)) (b ∷ x ∷ s) ∷ blank_fields (drop (1 + prefix_len is_not_blank (x ∷ s)) (b ∷ x ∷ s))) [
      | true ↦ (λ i. let z : prefix_len is_not_blank (x ∷ s) ≡ 0 = rw (sym i) refl in rw z refl)
      | false ↦ (λ i. rw one-add (ap (onto_first b) (more (sym i))))
    ] refl)

-- once the blanks in front are passed, none are at the front
pub no_blanks_left : (s : List ℕ) → prefix_len is_blank (drop (prefix_len is_blank s) s) ≡ 0
no_blanks_left [] = refl
no_blanks_left (b ∷ s) =
    elim (is_blank b) as (λ v. (is_blank b ≡ v) → prefix_len is_blank (drop (prefix_len is_blank (b ∷ s)) (b ∷ s)) ≡ 0) [
      | true ↦ (λ e. rw (e, one-add) (no_blanks_left s))
      | false ↦ (λ e. rw e (rw e refl))
    ] refl
