-- The bytes of each record stand at the place where it begins.
use Rattle.std.proofs.Common.{◌≡◌, inl, inr, ℕ, zero, suc, ◌+◌, ◌-◌, ◌<◌, Bool, true, false, not, ◌&&◌, cond, eqb, List, [], ◌∷◌, length, take, drop, get_or, slice_range, refl, ap, arith, sym, ◌∙◌}
use Rattle.std.proofs.lemmas.Bool.Decides.{eqb_tells}
use Rattle.std.proofs.lemmas.List.{drop-drop}
use Rattle.std.specs.List.{onto_first}
use Rattle.pawk_records.specs.Records.{newline, ends_line, paragraphs, paragraphs_from, records}
use Rattle.pawk_records.proofs.ParagraphLemmas.{begins_along}

-- the places in bytes that begin at place `at`; `fresh` says whether one begins at the first
abbrev pub lines_along : ℕ → ℕ → Bool → List ℕ → List ℕ
lines_along e at fresh [] = []
lines_along e at fresh (b ∷ s) =
    cond fresh (at ∷ lines_along e (at + 1) (eqb b e) s) (lines_along e (at + 1) (eqb b e) s)

-- each of these records stands at the place beside it
abbrev pub Stand : List ℕ → List ℕ → List (List ℕ) → Type 0
Stand s [] [] = Unit {0}
Stand s [] (r ∷ rs) = ⊥
Stand s (p ∷ ps) [] = ⊥
Stand s (p ∷ ps) (r ∷ rs) = (take (length r) (drop p s) ≡ r) × Stand s ps rs

-- the first is what is left of a record, at the front of t, and the others stand at these places
abbrev Rest : List ℕ → List ℕ → List ℕ → List (List ℕ) → Type 0
Rest s t ps [] = (t ≡ []) × (ps ≡ [])
Rest s t ps (r ∷ rs) = (take (length r) t ≡ r) × Stand s ps rs

-- one more byte of the first
more_rest : (s : List ℕ) (b : ℕ) (t ps : List ℕ) (rs : List (List ℕ)) → Rest s t ps rs → Rest s (b ∷ t) ps (onto_first b rs)
more_rest s b t ps [] h = rw h.1 (refl, tt)
more_rest s b t ps (r ∷ rs) h = (ap (λ l. b ∷ l) h.0, h.1)

-- and there it begins
begin_rest : (s : List ℕ) (at b : ℕ) (t ps : List ℕ) (rs : List (List ℕ)) → drop at s ≡ b ∷ t → Rest s t ps rs → Stand s (at ∷ ps) (onto_first b rs)
begin_rest s at b t ps [] left h = rw h.1 (ap (take 1) left, tt)
begin_rest s at b t ps (r ∷ rs) left h = (ap (take (length (b ∷ r))) left ∙ ap (λ l. b ∷ l) h.0, h.1)

rest_is : (s : List ℕ) (at b : ℕ) (t : List ℕ) → drop at s ≡ b ∷ t → drop (at + 1) s ≡ t
rest_is s at b t left = sym (drop-drop 1 at s) ∙ ap (drop 1) left

-- ---- lines

abbrev Lines : ℕ → List ℕ → ℕ → List ℕ → Bool → Type 0
Lines e s at t true = Stand s (lines_along e at true t) (records e t)
Lines e s at t false = Rest s t (lines_along e at false t) (records e t)

lines_stand : (e : ℕ) (s t : List ℕ) (at : ℕ) → drop at s ≡ t → (fresh : Bool) → Lines e s at t fresh
lines_stand e s [] at left true = tt
lines_stand e s [] at left false = (refl, refl)
lines_stand e s (b ∷ t) at left true = go (eqb b e) (lines_stand e s t (at + 1) (rest_is s at b t left) (eqb b e))
  where
    go : (v : Bool) → Lines e s (at + 1) t v → Stand s (at ∷ lines_along e (at + 1) v t) (cond v ([] ∷ records e t) (onto_first b (records e t)))
    go true h = (refl, h)
    go false h = begin_rest s at b t (lines_along e (at + 1) false t) (records e t) left h
lines_stand e s (b ∷ t) at left false = go (eqb b e) (lines_stand e s t (at + 1) (rest_is s at b t left) (eqb b e))
  where
    go : (v : Bool) → Lines e s (at + 1) t v → Rest s (b ∷ t) (lines_along e (at + 1) v t) (cond v ([] ∷ records e t) (onto_first b (records e t)))
    go true h = (refl, h)
    go false h = more_rest s b t (lines_along e (at + 1) false t) (records e t) h

pub records_stand : (e : ℕ) (s : List ℕ) → Stand s (lines_along e 0 true s) (records e s)
records_stand e s = lines_stand e s s 0 refl true

-- ---- paragraphs

abbrev After : List ℕ → ℕ → List ℕ → Bool → Type 0
After s at t true = Stand s (begins_along at true false t) (paragraphs t)
After s at t false = Rest s t (begins_along at true false t) (paragraphs_from true t)

mutual
  stand_outside : (s t : List ℕ) (at : ℕ) → drop at s ≡ t → Stand s (begins_along at true true t) (paragraphs t)
  stand_outside s [] at left = tt
  stand_outside s (b ∷ t) at left = elim (eqb b newline) as (λ v. Stand s (cond (not v) (at ∷ begins_along (at + 1) v (v && true) t) (begins_along (at + 1) v (v && true) t)) (cond v (paragraphs t) (onto_first b (paragraphs_from true t)))) [
    | true ↦ stand_outside s t (at + 1) (rest_is s at b t left)
    | false ↦ begin_rest s at b t (begins_along (at + 1) false false t) (paragraphs_from true t) left (stand_inside s t (at + 1) (rest_is s at b t left))
  ]

  stand_after : (s t : List ℕ) (at : ℕ) → drop at s ≡ t → After s at t (ends_line t)
  stand_after s [] at left = tt
  stand_after s (b ∷ t) at left = elim (eqb_tells b newline) [
    | inl y ↦ rw y.0 (rw y.0 (stand_outside s t (at + 1) (rest_is s at b t left)))
    | inr n ↦ rw n.0 (rw n.0 (more_rest s b t (begins_along (at + 1) false false t) (paragraphs_from true t) (stand_inside s t (at + 1) (rest_is s at b t left))))
  ]

  stand_inside : (s t : List ℕ) (at : ℕ) → drop at s ≡ t → Rest s t (begins_along at false false t) (paragraphs_from true t)
  stand_inside s [] at left = (refl, tt)
  stand_inside s (b ∷ t) at left = later (eqb b newline) (ends_line t) (stand_after s t (at + 1) (rest_is s at b t left)) (stand_inside s t (at + 1) (rest_is s at b t left))
    where
      later : (v w : Bool) → After s (at + 1) t w → Rest s t (begins_along (at + 1) false false t) (paragraphs_from true t) → Rest s (b ∷ t) (begins_along (at + 1) v (v && false) t) (cond (v && w) ([] ∷ paragraphs t) (onto_first b (paragraphs_from true t)))
      later true true after inside = (refl, after)
      later true false after inside = more_rest s b t (begins_along (at + 1) true false t) (paragraphs_from true t) after
      later false w after inside = more_rest s b t (begins_along (at + 1) false false t) (paragraphs_from true t) inside

pub paragraphs_stand : (s : List ℕ) → Stand s (begins_along 0 true true s) (paragraphs s)
paragraphs_stand s = stand_outside s s 0 refl

-- ---- by number

part_is : (s : List ℕ) (p n : ℕ) → slice_range s p (p + n) ≡ take n (drop p s)
part_is s p n = let e : p + n - p ≡ n = omega arith in rw e refl

pub standing_at : (s ps : List ℕ) (rs : List (List ℕ)) (k : ℕ) → Stand s ps rs → k < length rs → slice_range s (get_or ps k 0) (get_or ps k 0 + length (get_or rs k [])) ≡ get_or rs k []
standing_at s [] [] k h lt = absurd (omega arith)
standing_at s [] (r ∷ rs) k h lt = absurd h
standing_at s (p ∷ ps) [] k h lt = absurd h
standing_at s (p ∷ ps) (r ∷ rs) zero h lt = part_is s p (length r) ∙ h.0
standing_at s (p ∷ ps) (r ∷ rs) (suc k) h lt = standing_at s ps rs k h.1 (omega arith)
