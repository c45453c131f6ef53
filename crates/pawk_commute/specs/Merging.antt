-- What the test of a merge shows: whether there was an event.
use Rattle.std.specs.Prelude.{◌≡◌, ℤ, ◌+ℤ◌, Ok}
use Rattle.pawk_value.specs.Range.{FitsWord}
use Rattle.pawk_value.specs.Value.{Val}
use Rattle.pawk_value.specs.Conversion.{num_of}
use Rattle.pawk_world.specs.Worlds.{Cell}
use Rattle.pawk_store.specs.Globals.{value_at}
use Rattle.pawk_frozen.specs.Marks.{Mark, blank, summed, last_put, created, mark_at}
use Rattle.pawk_frozen.specs.Frozens.{Frozen}
use Rattle.pawk_store.specs.Records.{Left, through, next_file, exit, fault, clash, End}
use Rattle.pawk_store.specs.Laws.{SameEnd}
use Rattle.pawk_commute.specs.Traces.{Traced}
use Rattle.pawk_commute.specs.Settings.{Setting}
use Rattle.pawk_commute.specs.Commutation.{pair_of, Commuted, AddFaulted}

-- what a merge tests at a cell: what is there converts, and the least and the greatest sum from it are in range
abbrev pub Passes : Val → Mark → Type 0
Passes before blank = Unit {0}
Passes before (summed total least greatest) =
    (z : ℤ) × (num_of before ≡ Ok z) × FitsWord (z +ℤ least) × FitsWord (z +ℤ greatest)
Passes before (last_put v) = Unit {0}
Passes before created = Unit {0}

-- left neither by a fault nor by a clash
abbrev pub IsLeftWell : Left → Type 0
IsLeftWell through = Unit {0}
IsLeftWell next_file = Unit {0}
IsLeftWell (exit n) = Unit {0}
IsLeftWell (fault f) = ⊥
IsLeftWell clash = ⊥

abbrev pub AllPass : Setting → End Frozen → Type 0
AllPass i chunk = (c : Cell) → Passes (value_at c i.start) (mark_at c chunk.world.table)

-- Without an event each cell passes. Where the first event is an add's own fault and the chunk is left well, the cell of
-- that add fails. So a chunk that is left well and whose cells all pass ends as the same records in order.
pub record Tells (i : Setting) (store : End Traced) (chunk : End Frozen) : Type 0 where
  pub passes : SameEnd (pair_of i) store chunk → AllPass i chunk
  pub fails :
      (k : AddFaulted i store chunk) → IsLeftWell chunk.left →
      Passes (value_at k.target i.start) (mark_at k.target chunk.world.table) → ⊥
  pub same : Commuted i store chunk → IsLeftWell chunk.left → AllPass i chunk → SameEnd (pair_of i) store chunk

abbrev pub MergeTells : Type 0
MergeTells = (i : Setting) (store : End Traced) (chunk : End Frozen) → Tells i store chunk
