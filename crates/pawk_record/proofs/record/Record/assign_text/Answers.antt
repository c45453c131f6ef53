use Rattle.std.proofs.Common.{◌++◌, ◌∙◌, sym, ap}
use Rattle.pawk_ere_syntax.proofs.Refused.{is_empty_of, not_empty}
use Rattle.pawk_record.specs.Records.{unless_fault}
use Rattle.pawk_record.specs.Splitting.{first_place}
use Rattle.pawk_record.proofs.SplittingLemmas.{text_first}
use Rattle.pawk_record.proofs.ViewLemmas.{read_line}
use Rattle.pawk_record.proofs.record.Record.assign_text.Goals as goal

pub returns-then-not-is_empty-clause-record : goal.returns-then-not-is_empty-clause-record
returns-then-not-is_empty-clause-record c =
    let own = c.in_ok-extend_from_slice.ensures.items ∙ ap (λ s. s ++ c.args.text.now) c.clear.ensures.text in
    ap unless_fault (read_line c.args.fs.now c.args.paragraph c.args.text.now c.fit.new.self c.extend_from_slice.new.self.items c.clear.new.self.ranges.items c.clear.new.self.kinds.items _ own c.clear.ensures.ranges c.clear.ensures.kinds
    (sym (text_first c.args.text.now (not_empty c.args.text.now c.is_empty.result c.is_empty.ensures c.if-not-is_empty.true)))
    c.in_ok-fit.ensures.fields)

pub returns-else-not-is_empty-clause-record : goal.returns-else-not-is_empty-clause-record
returns-else-not-is_empty-clause-record c =
    let own = c.in_ok-extend_from_slice.ensures.items ∙ ap (λ s. s ++ c.args.text.now) c.clear.ensures.text in
    ap unless_fault (read_line c.args.fs.now c.args.paragraph c.args.text.now c.fit.new.self c.extend_from_slice.new.self.items c.clear.new.self.ranges.items c.clear.new.self.kinds.items _ own c.clear.ensures.ranges c.clear.ensures.kinds
    (sym (ap first_place (is_empty_of c.args.text.now c.is_empty.result c.is_empty.ensures c.if-not-is_empty.false)))
    c.in_ok-fit.ensures.fields)
