use Rattle.std.proofs.Common.{◌+◌, ap, subst, sym, length, Some}
use Rattle.pawk_ere_syntax.specs.Pattern.{IsFound}
use Rattle.pawk_ere_automaton.specs.Regex.{Takes}
use Rattle.pawk_ere.proofs.Literals.{literal_none, literal_some}
use Rattle.pawk_ere.proofs.literal.search_literal.Goals as goal

pub returns-in-None : goal.returns-in-None
returns-in-None c = λ e is. literal_none e c.args.text.now c.args.literal.now c.args.from c.requires c.in-None.ensures is

pub returns-in-Some : goal.returns-in-Some
returns-in-Some c = λ e is.
    subst (λ n. IsFound (Takes e c.args.text.now) c.args.from (Some (c.args.from + c.in-Some.ahead, (c.args.from + c.in-Some.ahead) + n))) (sym (ap length c.needle.ensures))
    (literal_some e c.args.text.now c.args.literal.now c.args.from c.in-Some.ahead c.requires c.in-Some.ensures.1 c.in-Some.ensures.0.before is)
