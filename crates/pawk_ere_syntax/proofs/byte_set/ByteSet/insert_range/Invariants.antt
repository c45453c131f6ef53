use Rattle.std.proofs.Common.{◌≡◌, ◌<◌, ◌≤◌, ◌+◌, ℕ, max, false, true, get_or, length}
use Rattle.pawk_ere_syntax.proofs.byte_set.ByteSet.insert_range.Given as goal

abbrev pub invariant-loop-byte : goal.invariant-loop-byte
invariant-loop-byte l = record {
  size : length l.self.members ≡ 256;
  bound : l.byte ≤ max l.low (l.high + 1);
  inside : (k : ℕ) → l.low ≤ k → k < l.byte → get_or l.self.members k false ≡ true;
  below : (k : ℕ) → k < l.low → get_or l.self.members k false ≡ get_or l.initial.self.members k false;
  above : (k : ℕ) → l.byte ≤ k → get_or l.self.members k false ≡ get_or l.initial.self.members k false;
}
