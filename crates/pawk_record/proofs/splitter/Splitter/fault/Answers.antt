use Rattle.pawk_ere_syntax.proofs.Refused.{is_empty_of, not_empty}
use Rattle.pawk_record.proofs.SplittingLemmas.{bad_is_fault, empty_left, expression_is_left, plain_is_left}
use Rattle.pawk_record.proofs.splitter.Splitter.fault.Goals as goal

pub returns-then-is_empty : goal.returns-then-is_empty
returns-then-is_empty c = empty_left c.args.self.now c.args.text.now (is_empty_of c.args.text.now c.is_empty.result c.is_empty.ensures c.if-is_empty.true)

pub returns-in-Plain : goal.returns-in-Plain
returns-in-Plain c = plain_is_left c.args.self.now c.args.text.now _ c.in-Plain.is c.requires (not_empty c.args.text.now c.is_empty.result c.is_empty.ensures c.if-is_empty.false)

pub returns-in-Expression : goal.returns-in-Expression
returns-in-Expression c = expression_is_left c.args.self.now c.args.text.now _ c.in-Expression.is c.requires (not_empty c.args.text.now c.is_empty.result c.is_empty.ensures c.if-is_empty.false)

pub returns-in-Bad : goal.returns-in-Bad
returns-in-Bad c = bad_is_fault c.args.self.now c.args.text.now _ c.in-Bad.is c.requires (not_empty c.args.text.now c.is_empty.result c.is_empty.ensures c.if-is_empty.false)
