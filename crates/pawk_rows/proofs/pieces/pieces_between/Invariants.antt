use Rattle.std.proofs.Common.{◌≤◌}
use Rattle.pawk_array.specs.Texts.{AreWithin}
use Rattle.pawk_rows.proofs.pieces.pieces_between.Given as goal

abbrev pub invariant-loop-place : goal.invariant-loop-place
invariant-loop-place l = record { begun : l.start ≤ l.place; within : AreWithin l.text l.pieces.items }
