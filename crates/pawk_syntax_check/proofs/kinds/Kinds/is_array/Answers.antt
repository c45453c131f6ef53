use Rattle.std.proofs.Common.{◌≡◌, None, Some, sym, ◌∙◌, rules}
use Rattle.pawk_syntax_check.specs.Marks.{is_marked}
use Rattle.pawk_syntax_check.proofs.Finding.{given_by, number_by}
use Rattle.pawk_syntax_check.proofs.kinds.Kinds.is_array.Goals as goal

pub returns-then-is_given : goal.returns-then-is_given
returns-then-is_given c = given_by _ _ (sym c.is_given.ensures ∙ c.if-is_given.true)

pub returns-in-None : goal.returns-in-None
returns-in-None c =
    number_by c.args.self.now (c.args.scope, c.args.name.now) None (sym c.is_given.ensures ∙ c.if-is_given.false) (sym c.number.ensures ∙ c.in-None.is)

pub returns-in-Some : goal.returns-in-Some
returns-in-Some c =
    let k = c.args.self.now in
    let value : c.unwrap_or.result ≡ is_marked k.marks.items c.in-Some.number = search rules in
    value ∙ number_by k (c.args.scope, c.args.name.now) (Some c.in-Some.number) (sym c.is_given.ensures ∙ c.if-is_given.false) (sym c.number.ensures ∙ c.in-Some.is)
