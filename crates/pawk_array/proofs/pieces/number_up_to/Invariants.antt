use Rattle.std.proofs.Common.{◌≡◌, length}
use Rattle.pawk_array.specs.Pieces.{AreNumbers}
use Rattle.pawk_array.proofs.pieces.number_up_to.Given as goal

abbrev pub invariant-loop-number : goal.invariant-loop-number
invariant-loop-number l = record {
  numbers : AreNumbers l.numbers;
  count : l.number ≡ length l.numbers;
}
