-- Slots that are filled one after the other.
use Rattle.std.proofs.Common.{◌≡◌, ℕ, zero, suc, List, [], ◌∷◌, length, get_or, set, replicate, refl, sym, ◌∙◌, ap}

module _ {X : Type 0} (d : X) where
  -- the first slots as in the list, the others with the default
  abbrev pub filled : ℕ → List X → List X
  filled zero xs = replicate (length xs) d
  filled (suc i) [] = []
  filled (suc i) (x ∷ xs) = x ∷ filled i xs

  pub length-filled : (i : ℕ) (xs : List X) → length (filled i xs) ≡ length xs
  length-filled zero [] = refl
  length-filled zero (x ∷ xs) = ap suc (length-filled zero xs)
  length-filled (suc i) [] = refl
  length-filled (suc i) (x ∷ xs) = ap suc (length-filled i xs)

  pub filled_all : (xs : List X) → filled (length xs) xs ≡ xs
  filled_all [] = refl
  filled_all (x ∷ xs) = ap (λ ys. x ∷ ys) (filled_all xs)

  replicated : (n i : ℕ) → get_or (replicate n d) i d ≡ d
  replicated zero i = refl
  replicated (suc n) zero = refl
  replicated (suc n) (suc i) = replicated n i

  -- a slot is filled later
  pub not_filled : (i : ℕ) (xs : List X) → get_or (filled i xs) i d ≡ d
  not_filled zero xs = replicated (length xs) 0
  not_filled (suc i) [] = refl
  not_filled (suc i) (x ∷ xs) = not_filled i xs

  pub filled_more : (i : ℕ) (xs : List X) → set (filled i xs) i (get_or xs i d) ≡ filled (suc i) xs
  filled_more zero [] = refl
  filled_more zero (x ∷ xs) = refl
  filled_more (suc i) [] = refl
  filled_more (suc i) (x ∷ xs) = ap (λ ys. x ∷ ys) (filled_more i xs)

  pub filled_until : (i : ℕ) (xs : List X) → length xs ≡ i → filled i xs ≡ xs
  filled_until i xs e = ap (λ n. filled n xs) (sym e) ∙ filled_all xs
