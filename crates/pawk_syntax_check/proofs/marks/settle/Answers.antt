use Rattle.pawk_syntax_check.proofs.marks.settle.Goals as goal

pub returns-clause-forced : goal.returns-clause-forced
returns-clause-forced c = λ k e f. c.spread.ensures.forced k e (c.follow.ensures k e f)
