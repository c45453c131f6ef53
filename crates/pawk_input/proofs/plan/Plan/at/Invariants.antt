use Rattle.std.proofs.Common.{◌≡◌, ℕ, ◌+◌, ◌≤◌, ◌++◌, drop, vec_len}
use Rattle.pawk_input.specs.Limits.{most_chunks}
use Rattle.pawk_input.specs.Limits.{most_bytes}
use Rattle.pawk_input.specs.Input.{files_of, total_size}
use Rattle.pawk_input.specs.Plan.{cut_at, cut_places, offsets, chunks_of}
use Rattle.pawk_input.proofs.CutPlanLemmas.{FilesRise}
use Rattle.pawk_input.proofs.plan.Plan.at.Given as goal

abbrev pub invariant-loop-file : goal.invariant-loop-file
invariant-loop-file l = record {
  few : vec_len l.draft.chunks ≤ most_chunks;
  room : l.draft.nr + total_size (drop l.file (files_of l.input)) ≤ most_bytes;
  ordered : FilesRise l.file l.left;
  same : (k : ℕ) → l.file ≤ k → offsets k l.cuts ≡ offsets k l.left;
  chunks : l.draft.chunks.items ++ chunks_of l.rs (cut_places l.cuts) l.file l.draft.nr (drop l.file (files_of l.input)) ≡ cut_at l.rs (files_of l.input) l.cuts;
}
