use Rattle.std.proofs.Common.{◌≡◌, ◌++◌, drop}
use Rattle.pawk_input.specs.Input.{files_of}
use Rattle.pawk_input.specs.Counts.{block_counts}
use Rattle.pawk_input.proofs.counts.count_blocks.Given as goal

abbrev pub invariant-loop-file : goal.invariant-loop-file
invariant-loop-file l = l.counts.items ++ block_counts l.rs l.block (drop l.file (files_of l.input)) ≡ block_counts l.rs l.block (files_of l.input)
