-- The numbers that a seat draws rise.
use Rattle.std.proofs.Common.{◌≡◌, ℕ, ◌+◌, ◌-◌, ◌<◌, ◌≤◌, max, List, [], ◌∷◌, ◌++◌, All, ap, ◌∙◌, arith}
use Rattle.std.proofs.lemmas.List.Elements.{All-head, All-tail}

-- one more than the greatest number of a list, or 0
abbrev pub above : List ℕ → ℕ
above [] = 0
above (x ∷ xs) = max (x + 1) (above xs)

above_le : (n : ℕ) (xs : List ℕ) → All (λ m. m < n) xs → above xs ≤ n
above_le n [] all = omega arith
above_le n (x ∷ xs) all =
    let head : x < n = All-head (λ m. m < n) x xs all in
    let rest = above_le n xs (All-tail (λ m. m < n) x xs all) in
    omega arith

above_push : (n : ℕ) (xs : List ℕ) → All (λ m. m < n) xs → above (xs ++ n ∷ []) ≡ n + 1
above_push n [] all = omega arith
above_push n (x ∷ xs) all =
    let head : x < n = All-head (λ m. m < n) x xs all in
    let rest = above_push n xs (All-tail (λ m. m < n) x xs all) in
    omega arith

-- a loop that claims chunks ends: each draw leaves fewer numbers between those drawn and the count of chunks
pub fewer_left : (C n : ℕ) (xs ys : List ℕ) → ys ≡ xs ++ n ∷ [] → All (λ m. m < n) xs → n < C → C - above ys < C - above xs
fewer_left C n xs ys e all small =
    let a : above ys ≡ n + 1 = ap above e ∙ above_push n xs all in
    let b = above_le n xs all in
    omega arith
