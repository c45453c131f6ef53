use Rattle.std.proofs.Common.{◌≡◌, replicate}
use Rattle.pawk_record.specs.declared.layout.Kind.TheVariants as kinds
use Rattle.pawk_record.proofs.layout.Layout.set_outside.Given as goal

abbrev pub invariant-loop : goal.invariant-loop
invariant-loop l = record {
  kinds : l.self.kinds.items ≡ replicate l.counter kinds.Maybe;
  text : l.self.text.items ≡ l.initial.self.text.items;
  ranges : l.self.ranges.items ≡ l.initial.self.ranges.items;
  mark : l.self.is_joined ≡ l.initial.self.is_joined;
}
