use Rattle.std.proofs.Common.{◌≡◌, ◌≤◌, ◌<◌, ◌++◌, ◌∷◌, length, take, drop, map, vec_len}
use Rattle.pawk_records.specs.Blocks.{joined}
use Rattle.pawk_input.specs.Limits.{most_chunks}
use Rattle.pawk_records.specs.Records.{records_by}
use Rattle.pawk_records.specs.Begins.{BeginsAt}
use Rattle.pawk_input.specs.Plan.{Rises, chunks_at}
use Rattle.pawk_input.proofs.draft.Draft.add_at_cuts.Given as goal

abbrev pub invariant-loop-cut : goal.invariant-loop-cut
invariant-loop-cut l = record {
  nr : l.self.nr ≡ l.initial.self.nr;
  counted : l.fnr ≡ length (records_by l.rs (take l.start (joined l.blocks)));
  room : l.fnr ≤ l.start;
  within : l.start < length (joined l.blocks);
  begins : BeginsAt l.rs (joined l.blocks) l.start;
  few : vec_len l.self.chunks ≤ most_chunks;
  rising : Rises l.rs (joined l.blocks) l.start (map (λ cut. cut.1) (drop l.cut-index l.cuts));
  chunks : l.self.chunks.items ++ chunks_at l.rs l.file (joined l.blocks) l.self.nr (l.start ∷ map (λ cut. cut.1) (drop l.cut-index l.cuts))
      ≡ l.initial.self.chunks.items ++ chunks_at l.rs l.file (joined l.blocks) l.initial.self.nr (l.initial.start ∷ map (λ cut. cut.1) l.cuts);
}
