use Rattle.std.proofs.Common.{◌≡◌, ◌-◌, ◌<◌, ◌≤◌, ◌++◌, length, take, vec_len}
use Rattle.pawk_records.specs.Blocks.{joined}
use Rattle.pawk_input.specs.Limits.{most_chunks}
use Rattle.pawk_records.specs.Records.{records_by}
use Rattle.pawk_records.specs.Begins.{BeginsAt, begins_by}
use Rattle.pawk_input.specs.Plan.{chunks_at, places_by_size}
use Rattle.pawk_input.proofs.SizeLemmas.{places_left}
use Rattle.pawk_input.proofs.draft.Draft.add_by_size.Given as goal

abbrev pub invariant-loop-start : goal.invariant-loop-start
invariant-loop-start l = record {
  nr : l.self.nr ≡ l.initial.self.nr;
  counted : l.fnr ≡ length (records_by l.rs (take l.start (joined l.blocks)));
  room : l.fnr ≤ l.start;
  within : l.start ≤ length (joined l.blocks);
  begins : l.start < length (joined l.blocks) → BeginsAt l.rs (joined l.blocks) l.start;
  few : vec_len l.self.chunks ≤ most_chunks;
  chunks : l.self.chunks.items ++ chunks_at l.rs l.file (joined l.blocks) l.self.nr (places_left l.rs (joined l.blocks) (λ _. l.size) l.start)
      ≡ l.initial.self.chunks.items ++ chunks_at l.rs l.file (joined l.blocks) l.initial.self.nr (places_by_size (λ _. l.size) (begins_by l.rs (joined l.blocks)));
}

abbrev pub decreases-loop-start : goal.decreases-loop-start
decreases-loop-start l = length (joined l.blocks) - l.start
