use Rattle.pawk_value.proofs.PieceLemmas as lemmas
use Rattle.pawk_value.proofs.pieces.count_plain.Goals as goal

pub returns-in-Some-clause-value : goal.returns-in-Some-clause-value
returns-in-Some-clause-value c = lemmas.plain_before c.args.text.now c.in-Some.place c.in-Some.ensures

pub returns-in-None-clause-value : goal.returns-in-None-clause-value
returns-in-None-clause-value c = lemmas.all_plain c.args.text.now c.in-None.ensures
