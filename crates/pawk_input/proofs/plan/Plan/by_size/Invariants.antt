use Rattle.std.proofs.Common.{◌≡◌, ◌+◌, ◌≤◌, ◌++◌, drop, vec_len}
use Rattle.pawk_input.specs.Limits.{most_chunks}
use Rattle.pawk_input.specs.Limits.{most_bytes}
use Rattle.pawk_input.specs.Input.{files_of, total_size}
use Rattle.pawk_input.specs.Plan.{chunks_of, sized, places_by_size}
use Rattle.pawk_input.proofs.plan.Plan.by_size.Given as goal

abbrev pub invariant-loop-file : goal.invariant-loop-file
invariant-loop-file l = record {
  few : vec_len l.draft.chunks ≤ most_chunks;
  room : l.draft.nr + total_size (drop l.file (files_of l.input)) ≤ most_bytes;
  chunks : l.draft.chunks.items ++ chunks_of l.rs (λ _ places. places_by_size (λ _. l.bytes) places) l.file l.draft.nr (drop l.file (files_of l.input)) ≡ sized l.rs (files_of l.input) l.bytes;
}
