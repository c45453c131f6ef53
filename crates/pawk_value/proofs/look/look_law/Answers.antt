use Rattle.pawk_value.proofs.LookLemmas as lemmas
use Rattle.pawk_value.proofs.look.look_law.Goals as goal

pub returns : goal.returns
returns c = lemmas.look_law c.args.text.now
