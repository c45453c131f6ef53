-- Pieces of a text where they lie.
use Rattle.std.specs.Prelude.{ℕ, List, map, slice_range}
use Rattle.std.specs.declared.ops.Range.{Range}

abbrev pub pieces_in : List ℕ → List (Range ℕ) → List (List ℕ)
pieces_in text = map (λ r. slice_range text r.start r.end)
