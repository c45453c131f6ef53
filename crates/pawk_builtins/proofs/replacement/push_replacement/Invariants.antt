use Rattle.std.proofs.Common.{◌≡◌, ◌++◌, length}
use Rattle.pawk_store.specs.Builtins.{replacement}
use Rattle.pawk_builtins.proofs.replacement.push_replacement.Given as goal

abbrev pub invariant-loop-out : goal.invariant-loop-out
invariant-loop-out l = l.out.items ++ replacement l.found l.rest ≡ l.initial.out.items ++ replacement l.found l.replacement

abbrev pub decreases-loop-out : goal.decreases-loop-out
decreases-loop-out l = length l.rest
