use Rattle.std.proofs.Common.{◌≡◌, ◌+◌, ◌≤◌, ◌++◌, drop, vec_len}
use Rattle.pawk_input.specs.Limits.{most_chunks}
use Rattle.pawk_input.specs.Limits.{most_bytes}
use Rattle.pawk_input.specs.Input.{files_of, total_size}
use Rattle.pawk_input.specs.Counts.{block_counts}
use Rattle.pawk_input.specs.Plan.{bytes_before, chunks_of, places_by_size, size_in_file, stepped}
use Rattle.pawk_input.proofs.plan.Plan.by_steps.Given as goal

abbrev pub invariant-loop-file : goal.invariant-loop-file
invariant-loop-file l = record {
  few : vec_len l.draft.chunks ≤ most_chunks;
  before : l.before ≡ bytes_before (files_of l.input) l.file;
  place : l.before + total_size (drop l.file (files_of l.input)) ≤ most_bytes;
  room : l.draft.nr + total_size (drop l.file (files_of l.input)) ≤ most_bytes;
  chunks : l.draft.chunks.items ++ chunks_of l.rs (λ file. places_by_size (size_in_file l.bytes l.steps (bytes_before (files_of l.input) file))) l.file l.draft.nr (drop l.file (files_of l.input)) ≡ stepped l.rs (files_of l.input) l.bytes l.steps;
  counts : l.left ≡ block_counts l.rs l.block (drop l.file (files_of l.input));
}
