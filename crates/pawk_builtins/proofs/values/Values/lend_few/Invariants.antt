use Rattle.std.proofs.Common.{◌≡◌, length, map, take}
use Rattle.pawk_value.specs.Value.{lent_value}
use Rattle.pawk_builtins.specs.ValueViews.{value_in}
use Rattle.pawk_builtins.proofs.values.Values.lend_few.Given as goal

abbrev pub invariant-loop-held : goal.invariant-loop-held
invariant-loop-held l = record {
  count : l.count ≡ l.held-index;
  room : length l.list ≡ 8;
  lent : map lent_value (take l.count l.list) ≡ map (value_in l.self-inside.bytes.items) (take l.count l.self-inside.values.items);
}
