use Rattle.std.proofs.Common.{◌≡◌, true, false, refl, ◌∙◌, rules}
use Rattle.std.specs.Str.{bytes_eq}
use Rattle.std.specs.List.{list_any}
use Rattle.pawk_lex.specs.Vocabulary.{is_among}
use Rattle.pawk_syntax_tree.specs.Item.{texts}
use Rattle.pawk_syntax_check.proofs.KindLists.{among_parameters}
use Rattle.pawk_syntax_check.proofs.demands.scope_of.Goals as goal

pub returns-then-is_parameter : goal.returns-then-is_parameter
returns-then-is_parameter c =
    let x = c.args.name.now.text.items in
    let ps = c.in-Function.parameters.items in
    let test : list_any (λ p. bytes_eq x p.text.items) ps ≡ true = search rules in
    let yes : is_among (texts ps) x ≡ true = among_parameters x ps ∙ test in
    rw (c.in-Function.is, yes) refl

pub returns-else-is_parameter : goal.returns-else-is_parameter
returns-else-is_parameter c =
    let x = c.args.name.now.text.items in
    let ps = c.in-Function.parameters.items in
    let test : list_any (λ p. bytes_eq x p.text.items) ps ≡ false = search rules in
    let no : is_among (texts ps) x ≡ false = among_parameters x ps ∙ test in
    rw (c.in-Function.is, no) refl
