use Rattle.std.proofs.Common.{◌≡◌, [], replicate}
use Rattle.pawk_frozen.proofs.table.empty_marks.Given as goal

abbrev pub invariant-loop : goal.invariant-loop
invariant-loop l = l.marks.items ≡ replicate l.counter []
