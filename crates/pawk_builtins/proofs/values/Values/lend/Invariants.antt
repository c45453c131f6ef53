use Rattle.std.proofs.Common.{◌≡◌, map, take}
use Rattle.pawk_value.specs.Value.{lent_value}
use Rattle.pawk_builtins.specs.ValueViews.{value_in}
use Rattle.pawk_builtins.proofs.values.Values.lend.Given as goal

abbrev pub invariant-loop-held : goal.invariant-loop-held
invariant-loop-held l = map lent_value l.list.items ≡ map (value_in l.self-inside.bytes.items) (take l.held-index l.self-inside.values.items)
