use Rattle.std.proofs.Common.{◌≡◌, ◌++◌, ◌-◌, ◌≤◌, length}
use Rattle.pawk_input.specs.Input.{file_at, files_of}
use Rattle.pawk_input.specs.Counts.{counts_left}
use Rattle.pawk_input.proofs.counts.push_counts.Given as goal

abbrev pub invariant-loop-from : goal.invariant-loop-from
invariant-loop-from l = record {
  within : l.from ≤ length (file_at (files_of l.input) l.file).bytes;
  counts : l.counts.items ++ counts_left l.rs l.block (file_at (files_of l.input) l.file).bytes l.from ≡ l.initial.counts.items ++ counts_left l.rs l.block (file_at (files_of l.input) l.file).bytes 0;
}

abbrev pub decreases-loop-from : goal.decreases-loop-from
decreases-loop-from l = length (file_at (files_of l.input) l.file).bytes - l.from
