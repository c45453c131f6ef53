use Rattle.std.proofs.Common.{◌≡◌}
use Rattle.pawk_input.proofs.PlacedLemmas.{after_up_to}
use Rattle.pawk_input.proofs.plan.count_on.Given as goal

abbrev pub invariant-loop-chunk : goal.invariant-loop-chunk
invariant-loop-chunk l = l.chunks ≡ after_up_to l.nr l.fnr l.chunk-index l.initial.chunks
