use Rattle.std.proofs.Common.{ℕ, ◌<◌, get_or}
use Rattle.pawk_lines.specs.declared.failure.Failure.TheVariants.{Damage}
use Rattle.pawk_lines.specs.declared.name.Name.{Name}
use Rattle.pawk_lines.specs.Names.{spelling}
use Rattle.pawk_lines.specs.Reading.{FailsAfter}
use Rattle.pawk_lines.proofs.name.read_name.Given as goal

abbrev pub invariant-loop-name : goal.invariant-loop-name
invariant-loop-name l = (k : ℕ) (d : Name) → k < l.name-index → FailsAfter (spelling (get_or l.names k d)) l.bytes Damage
