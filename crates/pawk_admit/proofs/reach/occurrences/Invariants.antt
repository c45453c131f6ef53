use Rattle.std.proofs.Common.{◌+◌, ◌-◌, length, map}
use Rattle.pawk_code.specs.ProgramViews.{code_view, function_view}
use Rattle.pawk_admit.proofs.Closures.{IsUnderway, left}
use Rattle.pawk_admit.proofs.reach.occurrences.Given as goal

abbrev pub invariant-loop-next : goal.invariant-loop-next
invariant-loop-next l = IsUnderway (code_view l.code) l.list.items l.flags.items l.next

abbrev pub decreases-loop-next : goal.decreases-loop-next
decreases-loop-next l = left (map function_view l.code.functions.items) l.flags.items + (length l.list.items - l.next)
