use Rattle.std.proofs.Common.{map, sym, ap, subst, ◌∙◌, ◌++◌}
use Rattle.std.proofs.lemmas.List.{append-nil}
use Rattle.pawk_syntax_grammar.specs.ExpressionReads.{AreExpressions}
use Rattle.pawk_syntax_grammar.proofs.Readings.{of_none}
use Rattle.pawk_syntax_grammar.proofs.expressions.read_expressions.Goals as goal

pub returns-clause-texts : goal.returns-clause-texts
returns-clause-texts c =
    let texts = map (λ t. t.items) c.loop-rest.texts.items in
    sym (append-nil texts) ∙ ap (λ xs. texts ++ xs) (sym (of_none c.loop-rest.rest.now c.in_default.len_below)) ∙ c.loop-rest.invariant.texts

pub returns-clause-found : goal.returns-clause-found
returns-clause-found c = c.loop-rest.invariant.found (subst AreExpressions (sym (of_none c.loop-rest.rest.now c.in_default.len_below)) tt)
