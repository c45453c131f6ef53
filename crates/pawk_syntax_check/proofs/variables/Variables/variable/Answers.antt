use Rattle.std.proofs.Common.{◌≡◌, Some, sym, ◌∙◌}
use Rattle.pawk_syntax_check.specs.Tables.{key_view, number_of}
use Rattle.pawk_syntax_check.proofs.variables.Variables.variable.Goals as goal

pub returns-in-Some-clause-number : goal.returns-in-Some-clause-number
returns-in-Some-clause-number c =
    let known : number_of c.args.self.now (key_view c.args.key) ≡ Some c.in-Some.number = sym c.number.ensures ∙ c.in-Some.is in
    c.requires.has_name (key_view c.args.key) c.in-Some.number known
