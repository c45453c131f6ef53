use Rattle.std.proofs.Common.{◌≡◌, ◌+◌, ◌-◌, ◌≤◌, length}
use Rattle.std.specs.Io.KnownBytes.{Consumes}
use Rattle.pawk_input.specs.Limits.{most_bytes}
use Rattle.pawk_device.proofs.transfer.read_pieces.Given as goal

abbrev pub invariant-loop-count : goal.invariant-loop-count
invariant-loop-count g l = record {
  small : length l.bytes.items ≤ most_bytes;
  gave : Consumes (g.S.Source.left l.initial.source) (g.S.Source.left l.source) l.bytes.items;
  no_failure : g.S.Source.failures l.source ≡ g.S.Source.failures l.initial.source;
}

abbrev pub decreases-loop-count : goal.decreases-loop-count
decreases-loop-count g l = most_bytes + 1 - length l.bytes.items
