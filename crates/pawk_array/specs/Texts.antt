-- Texts in one buffer of bytes.
use Rattle.std.specs.Prelude.{ℕ, ◌≤◌, List, map, length, slice_range}
use Rattle.std.specs.List.{All}
use Rattle.std.specs.declared.ops.Range.{Range}

abbrev pub texts_in : List ℕ → List (Range ℕ) → List (List ℕ)
texts_in bytes rs = map (λ r. slice_range bytes r.start r.end) rs

abbrev pub AreWithin : List ℕ → List (Range ℕ) → Type 0
AreWithin bytes rs = All (λ r. (r.start ≤ r.end) × (r.end ≤ length bytes)) rs
