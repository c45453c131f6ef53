use Rattle.std.proofs.Common.{◌≡◌, drop}
use Rattle.pawk_array.specs.Entries.{with_pieces}
use Rattle.pawk_array.proofs.array.AssociativeArray.set_pieces.Given as goal

abbrev pub invariant-loop-index : goal.invariant-loop-index
invariant-loop-index l = with_pieces l.index l.text (drop l.index l.ranges) l.self ≡ with_pieces 0 l.text l.ranges l.initial.self
