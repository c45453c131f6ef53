use Rattle.std.proofs.Common.{length}
use Rattle.pawk_store.specs.Openings.{pairs_of}
use Rattle.pawk_tables.specs.Layout.{assign_lines}
use Rattle.pawk_tables.specs.Reading.{BeginsLines}
use Rattle.pawk_tables.proofs.header.read_assignments.Given as goal

abbrev pub invariant-loop-assignments : goal.invariant-loop-assignments
invariant-loop-assignments l = BeginsLines l.fn.bytes (assign_lines (pairs_of l.assignments.items)) l.rest

abbrev pub decreases-loop-assignments : goal.decreases-loop-assignments
decreases-loop-assignments l = length l.rest
