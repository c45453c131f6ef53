use Rattle.std.proofs.Common.{◌≡◌, ℕ, ◌+◌, ◌*◌, ◌<◌, false, get_or, length}
use Rattle.pawk_ere_automaton.specs.Members.{bit}
use Rattle.pawk_ere_automaton.proofs.members.Members.of.Given as goal

abbrev pub invariant-loop-place : goal.invariant-loop-place
invariant-loop-place l = record {
  size : length l.octets ≡ 32;
  all : length l.set.members ≡ 256;
  same : (p k : ℕ) → p < l.place → k < 8 → bit (get_or l.octets p 0) k ≡ get_or l.set.members (8 * p + k) false;
}
