use Rattle.std.proofs.Common.{◌≡◌, ◌++◌, map, take, drop}
use Rattle.pawk_record.specs.Lines.{moved}
use Rattle.pawk_record.proofs.places.move_all.Given as goal

abbrev pub invariant-loop-range : goal.invariant-loop-range
invariant-loop-range l = l.ranges ≡ map (moved l.from l.to) (take l.range-index l.initial.ranges) ++ drop l.range-index l.initial.ranges
