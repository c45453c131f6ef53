use Rattle.std.proofs.Common.{◌≤◌, length}
use Rattle.pawk_value.specs.Limits.{length_limit}
use Rattle.pawk_value.specs.Value.{lent_value}
use Rattle.pawk_record.specs.Lines.{IsLaidOutTo, values}
use Rattle.pawk_record.specs.Records.{with_value}
use Rattle.pawk_record.proofs.layout.Layout.lay_out.Given as goal

abbrev pub invariant-loop-number : goal.invariant-loop-number
invariant-loop-number l = record {
  laid : IsLaidOutTo l.ofs (with_value l.change.n (lent_value l.change.value) (values l.fields.text.now l.fields.ranges.now l.fields.kinds.now)) l.number l.self;
  short : length l.self.text.items ≤ length_limit;
}
