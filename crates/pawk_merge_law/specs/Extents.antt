-- The first of chunks.
use Rattle.std.specs.Prelude.{ℕ, List, take, All}
use Rattle.pawk_input.specs.Input.{Item}
use Rattle.pawk_merge.specs.Merges.{Chunk}
use Rattle.pawk_merge_law.specs.Phases.{Phase}
use Rattle.pawk_merge_law.specs.ChunkedRuns.{Ran, HasRecord}

-- the first of chunks leave what they leave among all
abbrev pub FirstLaw : Type 0
FirstLaw =
    (p : Phase) (nr : ℕ) (chunks : List (List Item)) (results : List Chunk) (n : ℕ) →
    Ran p nr chunks results → All HasRecord chunks →
    Ran p nr (take n chunks) (take n results) × All HasRecord (take n chunks)
