use Rattle.std.proofs.Common.{◌-◌, ◌^◌, ◌<◌}
use Rattle.pawk_input.specs.Input.{files_of}
use Rattle.pawk_workers.proofs.SizeLemmas.{IsDoubled}
use Rattle.pawk_workers.proofs.size.block_size.Given as goal

abbrev pub invariant-loop-size : goal.invariant-loop-size
invariant-loop-size l = record {
  some : 0 < l.size;
  doubled : IsDoubled (files_of l.input) l.size;
}

abbrev pub decreases-loop-size : goal.decreases-loop-size
decreases-loop-size l = 2 ^ 62 - l.size
