-- The bits of a list of tests, dropped and joined.
use Rattle.std.proofs.Common.{◌≡◌, ℕ, zero, suc, ◌+◌, ◌*◌, ◌/◌, ◌^◌, Bool, true, false, cond, List, [], ◌∷◌, ◌++◌, length, drop, ap, arith, sym, ◌∙◌, shr-shr}
use native.Mathlib.Nat.{div-one, pow-suc, zero-div}
use lib.Lanes.{mask_l}

pub halved : (b : Bool) (n : ℕ) → (cond b 1 0 + 2 * n) / 2 ≡ n
halved true n = omega arith
halved false n = omega arith

-- a shift to the right drops the first tests
pub mask_l-drop : (ms : List Bool) (k : ℕ) → mask_l (drop k ms) ≡ mask_l ms / 2 ^ k
mask_l-drop ms zero = sym (div-one (mask_l ms))
mask_l-drop [] (suc k) = sym (zero-div (2 ^ suc k))
mask_l-drop (b ∷ ms) (suc k) =
    let one : 1 + k ≡ suc k = omega arith in
    mask_l-drop ms k ∙ ap (λ n. n / 2 ^ k) (sym (halved b (mask_l ms))) ∙ shr-shr (mask_l (b ∷ ms)) 1 k ∙ ap (λ j. mask_l (b ∷ ms) / 2 ^ j) one

-- tests after others have the higher bits
pub mask_l-append : (ms ns : List Bool) → mask_l (ms ++ ns) ≡ mask_l ms + mask_l ns * 2 ^ length ms
mask_l-append [] ns = omega arith
mask_l-append (b ∷ ms) ns =
    let more = mask_l-append ms ns in
    let twice : mask_l ns * 2 ^ length (b ∷ ms) ≡ 2 * (mask_l ns * 2 ^ length ms) = ap (λ n. mask_l ns * n) (pow-suc 2 (length ms)) ∙ omega arith in
    omega (arith, more, twice)
