use Rattle.std.proofs.Common.{sym, refl, ap}
use Rattle.std.proofs.lemmas.Result.{err_from_is_err_and}
use Rattle.pawk_ere_syntax.proofs.Refused.{is_empty_of, not_empty}
use Rattle.pawk_record.specs.Splitting.{first_place}
use Rattle.pawk_record.proofs.SplittingLemmas.{fault_map, text_first}
use Rattle.pawk_record.proofs.ViewLemmas.{read_fault, read_line}
use Rattle.pawk_record.proofs.record.Record.read.Goals as goal

pub returns-in_err-answer-clause-fault : goal.returns-in_err-answer-clause-fault
returns-in_err-answer-clause-fault c =
    let p = err_from_is_err_and c.from_residual.result c.from_residual.ensures.1 in
    rw (p.1, p.2) (fault_map _ _ _ (read_fault c.args.fs.now c.args.paragraph c.args.text.now c.fit-answer.new.self c.clear.new.self.ranges.items c.clear.new.self.kinds.items c.clear.ensures.ranges) c.in_err-answer.ensures.fault)

pub returns-then-not-is_empty-clause-record : goal.returns-then-not-is_empty-clause-record
returns-then-not-is_empty-clause-record c =
    read_line c.args.fs.now c.args.paragraph c.args.text.now c.fit-answer.new.self c.args.text.now c.clear.new.self.ranges.items c.clear.new.self.kinds.items _ refl c.clear.ensures.ranges c.clear.ensures.kinds
    (sym (text_first c.args.text.now (not_empty c.args.text.now c.is_empty.result c.is_empty.ensures c.if-not-is_empty.true)))
    c.in_ok-answer.ensures.fields

pub returns-else-not-is_empty-clause-record : goal.returns-else-not-is_empty-clause-record
returns-else-not-is_empty-clause-record c =
    read_line c.args.fs.now c.args.paragraph c.args.text.now c.fit-answer.new.self c.args.text.now c.clear.new.self.ranges.items c.clear.new.self.kinds.items _ refl c.clear.ensures.ranges c.clear.ensures.kinds
    (sym (ap first_place (is_empty_of c.args.text.now c.is_empty.result c.is_empty.ensures c.if-not-is_empty.false)))
    c.in_ok-answer.ensures.fields
