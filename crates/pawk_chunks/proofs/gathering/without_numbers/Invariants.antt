use Rattle.std.proofs.Common.{◌≡◌, map}
use Rattle.pawk_chunks.specs.Worker.{Numbered}
use Rattle.pawk_chunks.proofs.gathering.without_numbers.Given as goal

abbrev pub invariant-loop-result : goal.invariant-loop-result
invariant-loop-result l = l.bare.items ≡ map (λ (r : Numbered). r.1) l.yielded
