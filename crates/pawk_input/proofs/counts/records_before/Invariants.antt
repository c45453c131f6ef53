use Rattle.std.proofs.Common.{◌-◌}
use Rattle.pawk_records.specs.Separator.{rs_of}
use Rattle.pawk_records.specs.Blocks.{joined}
use Rattle.pawk_input.specs.Passed.{IsPassed}
use Rattle.pawk_input.proofs.counts.records_before.Given as goal

abbrev pub invariant-loop-passed : goal.invariant-loop-passed
invariant-loop-passed l = IsPassed (rs_of l.separator) l.block (joined l.blocks) l.passed l.place

abbrev pub decreases-loop-passed : goal.decreases-loop-passed
decreases-loop-passed l = l.place - l.passed.edge
