use Rattle.std.proofs.Common.{ap, ◌∙◌, sym}
use Rattle.pawk_ere_automaton.specs.Regex.{Plus}
use Rattle.pawk_ere_automaton.specs.Tree.{regex_of}
use Rattle.pawk_ere_automaton.proofs.Begins.{plus_begins}
use Rattle.pawk_ere_automaton.proofs.hints.+first_byte.Goals as goal

pub returns-in-Plus : goal.returns-in-Plus
returns-in-Plus t c =
    plus_begins c.first_byte-in-Plus.result (regex_of c.deref-in-Plus.result.now) (regex_of c.args.node.now) (ap regex_of c.in-Plus.is ∙ ap (λ x. Plus (regex_of x)) (sym c.deref-in-Plus.ensures)) c.first_byte-in-Plus.ensures
