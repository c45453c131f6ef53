use Rattle.std.proofs.Common.{sym, ◌∙◌, arith}
use Rattle.pawk_ere.proofs.Needed.{lacks_more}
use Rattle.pawk_ere.proofs.words.lacks_words.Goals as goal

pub loop-word-preserved : goal.loop-word-preserved
loop-word-preserved c =
    lacks_more c.args.text.now c.word-item.result c.args.words.now c.loop-word.word-index c.find.result (omega arith) c.word-item.is (sym c.is_some.ensures ∙ c.if-is_some.false) c.find.ensures c.loop-word.invariant

pub returns-clause-none : goal.returns-clause-none
returns-clause-none c = λ h k d lt. c.loop-word.invariant k d (omega arith)
