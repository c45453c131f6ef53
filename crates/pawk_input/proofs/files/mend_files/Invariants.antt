use Rattle.std.proofs.Common.{◌≡◌, ℕ, ◌<◌, get_or}
use Rattle.pawk_records.specs.Blocks.{AreMended}
use Rattle.pawk_input.specs.Input.{FileInBlocks, files_of, in_blocks}
use Rattle.pawk_input.proofs.files.mend_files.Given as goal

abbrev pub invariant-loop-i : goal.invariant-loop-i
invariant-loop-i l = record {
  same : files_of (in_blocks l.files) ≡ files_of (in_blocks l.initial.files);
  ready : (k : ℕ) (d : FileInBlocks) → k < l.i → AreMended l.rs (get_or (in_blocks l.files) k d).blocks;
}
