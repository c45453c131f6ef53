use Rattle.std.proofs.Common.{◌≡◌, length, map}
use Rattle.pawk_array.specs.Pieces.{AreNumbers}
use Rattle.pawk_array.proofs.pieces.TextPieces.keys.Given as goal

abbrev pub invariant-loop-place : goal.invariant-loop-place
invariant-loop-place l = record {
  numbers : AreNumbers (map (λ x. x.text.now) l.all.items);
  count : length l.all.items ≡ l.place;
}
