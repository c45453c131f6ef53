-- Records that a walk passes over.
use Rattle.std.specs.Prelude.{◌≡◌, ℕ, ◌≤◌, List, ◌++◌, length, All}
use Rattle.pawk_ere.specs.Words.{HoldsNone}
use Rattle.pawk_input.specs.Input.{Item}

-- The walk goes on n records later: none of those between holds one of the words. Where there are such, another
-- record follows.
pub record PassesOver (words : List (List ℕ)) (old new : List Item) (n : ℕ) : Type 0 where
  pub passed : List Item
  pub between : old ≡ passed ++ new
  pub count : length passed ≡ n
  pub without : All (λ (i : Item). HoldsNone i.bytes words) passed
  pub more : 1 ≤ n → 1 ≤ length new
