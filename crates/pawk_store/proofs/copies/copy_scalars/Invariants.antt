use Rattle.std.proofs.Common.{◌≡◌, map, take}
use Rattle.pawk_value.specs.Value.{shown}
use Rattle.pawk_store.proofs.copies.copy_scalars.Given as goal

abbrev pub invariant-loop-scalar : goal.invariant-loop-scalar
invariant-loop-scalar l = map shown l.copy.items ≡ map shown (take l.scalar-index l.scalars)
