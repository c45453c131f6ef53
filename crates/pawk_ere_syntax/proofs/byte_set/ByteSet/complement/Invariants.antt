use Rattle.std.proofs.Common.{◌≡◌, ◌<◌, ℕ, false, get_or, length}
use Rattle.pawk_ere_syntax.specs.Sets.{not_in}
use Rattle.pawk_ere_syntax.proofs.byte_set.ByteSet.complement.Given as goal

abbrev pub invariant-loop-byte : goal.invariant-loop-byte
invariant-loop-byte l = record {
  size : length l.members ≡ 256;
  same : (k : ℕ) → k < l.byte → get_or l.members k false ≡ not_in l.self.members k;
}
