use Rattle.std.proofs.Common.{rules}
use Rattle.pawk_fields.proofs.NewlineLemmas.{no_newline, first_newline}
use Rattle.pawk_fields.proofs.cut.find_newline.Goals as goal

pub returns-in-None : goal.returns-in-None
returns-in-None c = no_newline c.args.text.now c.args.paragraph c.args.from c.args.to c.requires.ordered c.requires.within c.in-None.ensures

pub returns-in-Some : goal.returns-in-Some
returns-in-Some c = first_newline c.args.text.now c.args.paragraph c.args.from c.args.to c.requires.ordered c.requires.within (search rules) c.in-Some.ahead c.in-Some.ensures.0 c.in-Some.ensures.1
