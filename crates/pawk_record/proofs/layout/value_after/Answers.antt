use Rattle.std.proofs.Common.{ap, sym, ◌∙◌, arith, Some}
use Rattle.pawk_value.specs.Value.{lent_value}
use Rattle.pawk_record.specs.Lines.{values}
use Rattle.pawk_record.proofs.LineLemmas.{length-values, with_value_other, with_value_same}
use Rattle.pawk_record.proofs.layout.value_after.Goals as goal

pub returns-then-number-change : goal.returns-then-number-change
returns-then-number-change c = with_value_same c.args.change.n (lent_value c.args.change.value) (values c.args.fields.text.now c.args.fields.ranges.now c.args.fields.kinds.now) c.args.number c.if-number-change.true

pub returns-else-number-change : goal.returns-else-number-change
returns-else-number-change c =
    let f = c.args.fields in
    let long = length-values f.text.now f.ranges.now f.kinds.now in
    with_value_other c.args.change.n (lent_value c.args.change.value) (values f.text.now f.ranges.now f.kinds.now) c.args.number c.requires.first c.if-number-change.false (omega arith) ∙ ap Some (sym c.value.ensures)
