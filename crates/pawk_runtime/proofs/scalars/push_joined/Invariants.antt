use Rattle.std.proofs.Common.{◌≡◌, ◌++◌, drop}
use Rattle.pawk_store.specs.Builtins.{joined_by, joined_after}
use Rattle.pawk_runtime.proofs.scalars.push_joined.Given as goal

abbrev pub invariant-loop-number : goal.invariant-loop-number
invariant-loop-number l =
    l.out.items ++ joined_after l.separator (drop l.number l.texts) ≡ l.fn.out.items ++ joined_by l.separator l.texts
