use Rattle.std.proofs.Common.{◌≡◌, drop}
use Rattle.pawk_array.specs.ArrayViews.{entries_of}
use Rattle.pawk_array.specs.Pieces.{with_texts}
use Rattle.pawk_array.proofs.array.insert_pieces.Given as goal

abbrev pub invariant-loop-place : goal.invariant-loop-place
invariant-loop-place l = with_texts l.place (drop l.place l.pieces) (entries_of l.map.entries) ≡ with_texts 0 l.pieces (entries_of l.fn.map.entries)
