use Rattle.std.proofs.Common.{◌≡◌, ℕ, ◌+◌, ◌<◌, [], length, get_or}
use Rattle.pawk_records.specs.Separator.{rs_of}
use Rattle.pawk_records.specs.Blocks.{EndsRecord, joined}
use Rattle.pawk_records.proofs.mending.mend_all.Given as goal

abbrev pub invariant-loop-i : goal.invariant-loop-i
invariant-loop-i l = record {
  same : joined l.blocks ≡ joined l.initial.blocks;
  ended : (k : ℕ) → k + 1 < l.i → 0 < length (get_or l.blocks k []) → EndsRecord (rs_of l.separator) (get_or l.blocks k []);
}
