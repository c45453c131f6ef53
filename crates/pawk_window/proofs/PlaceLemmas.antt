-- A place in a list whose elements from there on are those of another.
use Rattle.std.proofs.Common.{◌≡◌, ℕ, zero, suc, ◌+◌, ◌<◌, ◌≤◌, List, [], ◌∷◌, ◌++◌, length, get_or, take, drop, refl, ap, sym, ◌∙◌, take-append-drop, add-one, arith}
use Rattle.std.proofs.Math.Seq.{drop-cons}
use Rattle.pawk_device.proofs.TransferLemmas.{take-more}

-- Without one more is without as many and one.
drop_one : {X : Type 0} (n : ℕ) (xs : List X) → drop 1 (drop n xs) ≡ drop (suc n) xs
drop_one zero xs = refl
drop_one (suc n) [] = refl
drop_one (suc n) (x ∷ xs) = drop_one n xs

-- Past the place they are the same.
pub drop_past : {X : Type 0} (now old : List X) (i : ℕ) → drop i now ≡ drop i old → drop (i + 1) now ≡ drop (i + 1) old
drop_past now old i same =
    ap (λ n. drop n now) (add-one i) ∙ sym (drop_one i now) ∙ ap (λ l. drop 1 l) same ∙ drop_one i old ∙ ap (λ n. drop n old) (sym (add-one i))

-- From the place on the other is the element there, and what follows it.
pub drop_at : {X : Type 0} (now old : List X) (i : ℕ) (d : X) → i < length now → drop i now ≡ drop i old → drop i old ≡ get_or now i d ∷ drop (i + 1) old
drop_at now old i d small same =
    sym same ∙ drop-cons now i d small ∙ ap (λ n. get_or now i d ∷ drop n now) (sym (add-one i))
    ∙ ap (λ l. get_or now i d ∷ l) (drop_past now old i same)

-- The other is what is before the place, the element there, and what follows it.
pub whole_at : {X : Type 0} (now old : List X) (i : ℕ) (d : X) → i < length now → drop i now ≡ drop i old → take i old ++ (get_or now i d ∷ drop (i + 1) old) ≡ old
whole_at now old i d small same = ap (λ l. take i old ++ l) (sym (drop_at now old i d small same)) ∙ take-append-drop i old

-- What is before the next place is what is before this one, and the element there.
pub take_at : {X : Type 0} (now old : List X) (i : ℕ) (d : X) → i < length now → drop i now ≡ drop i old → take i old ++ (get_or now i d ∷ []) ≡ take (i + 1) old
take_at now old i d small same = ap (λ l. take i old ++ take 1 l) (sym (drop_at now old i d small same)) ∙ take-more i 1 old

-- All of a list is before its end.
pub take_all : {X : Type 0} (n : ℕ) (xs : List X) → length xs ≤ n → take n xs ≡ xs
take_all zero [] h = refl
take_all zero (x ∷ xs) h = absurd (omega (arith, h))
take_all (suc n) [] h = refl
take_all (suc n) (x ∷ xs) h = ap (λ l. x ∷ l) (take_all n xs (omega (arith, h)))
