use Rattle.std.proofs.Common.{sym, ap, ◌≡◌, ◌∙◌, rules, map, subst}
use Rattle.pawk_lex.specs.TokenLists.{values}
use Rattle.pawk_syntax_tree.specs.Item.{part}
use Rattle.pawk_syntax_tree.specs.ItemCanonical.{canon_program}
use Rattle.pawk_syntax_grammar.specs.Expressions.{eres}
use Rattle.pawk_syntax_grammar.specs.ExpressionReads.{AreExpressions, Denies}
use Rattle.pawk_syntax_check.specs.Fits.{Fits}
use Rattle.pawk_syntax.specs.Spells.{Spells}
use Rattle.pawk_syntax.specs.Items.{AreRead}
use Rattle.pawk_syntax.proofs.Readings.{spells, same_expressions, read_again, expressions_again, same_parts, memory, no_fault}
use Rattle.pawk_syntax.proofs.text.parse.Goals as goal

pub returns-in_ok-check-in-Ok-clause-found : goal.returns-in_ok-check-in-Ok-clause-found
returns-in_ok-check-in-Ok-clause-found c =
    spells c.args.text.now (values c.in_ok-list.list.tokens.items) c.in_ok-list.list.refusal (map part c.in-Ok.items.items)
    c.in_ok-list.ensures.tokens c.in-Ok.ensures.found
    (subst (λ z. AreExpressions (eres (values z))) c.deref.ensures.value c.in_ok-expressions-in-Ok.ensures.found)
    (subst (λ z. Fits (map part z)) c.deref-in-Ok.ensures.value c.in_ok-check-in-Ok.ensures.fit)

pub returns-in_ok-check-in-Ok-clause-canonical : goal.returns-in_ok-check-in-Ok-clause-canonical
returns-in_ok-check-in-Ok-clause-canonical c other xs s cut =
    same_parts (values c.in_ok-list.list.tokens.items) c.in_ok-list.list.refusal (map part c.in-Ok.items.items) xs c.in-Ok.ensures.found
    (read_again other xs (values c.in_ok-list.list.tokens.items) c.in_ok-list.list.refusal s (c.in_ok-list.ensures.whole (canon_program xs) cut))

pub returns-in-Err-clause-canonical : goal.returns-in-Err-clause-canonical
returns-in-Err-clause-canonical c other xs s cut =
    c.first_refusal.ensures
    (memory c.in-Err.why (AreRead (values c.in_ok-list.list.tokens.items) c.in_ok-list.list.refusal xs) (c.in-Err.ensures.refused xs)
    (read_again other xs (values c.in_ok-list.list.tokens.items) c.in_ok-list.list.refusal s (c.in_ok-list.ensures.whole (canon_program xs) cut)))

pub returns-in_err-expressions-in-Ok-clause-canonical : goal.returns-in_err-expressions-in-Ok-clause-canonical
returns-in_err-expressions-in-Ok-clause-canonical c other xs s cut =
    let why = c.in_err-expressions-in-Ok.field-0.0 in
    let ts = values c.in_ok-list.list.tokens.items in
    let denied : Denies why (AreExpressions (eres ts)) = subst (λ z. Denies why (AreExpressions (eres (values z)))) c.deref.ensures.value c.in_err-expressions-in-Ok.ensures.refused in
    let no_memory = memory why (AreExpressions (eres ts)) denied (expressions_again other xs ts c.in_ok-list.list.refusal s (c.in_ok-list.ensures.whole (canon_program xs) cut)) in
    search rules

pub invariant_of-result : goal.invariant_of-result
invariant_of-result c =
    let found : Spells c.args.text.now (map part c.in-Ok.items.items) =
    spells c.args.text.now (values c.in_ok-list.list.tokens.items) c.in_ok-list.list.refusal (map part c.in-Ok.items.items)
    c.in_ok-list.ensures.tokens c.in-Ok.ensures.found
    (subst (λ z. AreExpressions (eres (values z))) c.deref.ensures.value c.in_ok-expressions-in-Ok.ensures.found)
    (subst (λ z. Fits (map part z)) c.deref-in-Ok.ensures.value c.in_ok-check-in-Ok.ensures.fit) in
    record {
      spelled = ∣ (c.args.text.now, found) ∣₁;
      texts = c.in_ok-expressions-in-Ok.ensures.texts ∙ ap (λ z. eres (values z)) c.deref.ensures.value
          ∙ same_expressions (values c.in_ok-list.list.tokens.items) c.in_ok-list.list.refusal (map part c.in-Ok.items.items) c.in-Ok.ensures.found;
    }

pub returns-in_err-check-in-Ok-clause-canonical : goal.returns-in_err-check-in-Ok-clause-canonical
returns-in_err-check-in-Ok-clause-canonical c other xs s cut =
    let why = c.in_err-check-in-Ok.field-0.0 in
    let ts = values c.in_ok-list.list.tokens.items in
    let same : map part c.in-Ok.items.items ≡ xs = same_parts ts c.in_ok-list.list.refusal (map part c.in-Ok.items.items) xs c.in-Ok.ensures.found
    (read_again other xs ts c.in_ok-list.list.refusal s (c.in_ok-list.ensures.whole (canon_program xs) cut)) in
    let fits : Fits (map part c.deref-in-Ok.result.now) = subst (λ z. Fits (map part z)) (sym c.deref-in-Ok.ensures.value) (subst Fits (sym same) s.fits) in
    let no_memory = no_fault why (Fits (map part c.deref-in-Ok.result.now)) c.in_err-check-in-Ok.ensures.unfit fits in
    search rules
