use Rattle.std.proofs.Common.{◌<◌, ◌∙◌, sym, subst, length, arith}
use Rattle.std.proofs.lemmas.Result.{IfOk-weaker}
use Rattle.pawk_ere.specs.Answers.{IsFor}
use Rattle.pawk_builtins.proofs.ReplaceLemmas.{unused_next, unused_ahead, used_end, used_next, used_ahead}
use Rattle.pawk_builtins.proofs.replace.next_match.Goals as goal

pub returns-then-not-is_used-clause-found : goal.returns-then-not-is_used-clause-found
returns-then-not-is_used-clause-found c = λ e for.
    unused_next e c.args.text.now c.args.from c.args.behind c.in_ok-found.found c.requires.within (c.in_ok-found.ensures.answer e for) (sym c.is_used.ensures ∙ c.if-not-is_used.true)

pub returns-then-not-is_used-clause-ahead : goal.returns-then-not-is_used-clause-ahead
returns-then-not-is_used-clause-ahead c =
    let e = c.requires.matcher.0 in
    unused_ahead e c.args.text.now c.args.from c.args.behind c.in_ok-found.found c.requires.within (c.in_ok-found.ensures.answer e c.requires.matcher.1) (sym c.is_used.ensures ∙ c.if-not-is_used.true)

pub returns-then-from-text-clause-found : goal.returns-then-from-text-clause-found
returns-then-from-text-clause-found c = λ e for.
    used_end e c.args.text.now c.args.from c.args.behind c.in_ok-found.found c.if-from-text.true (sym c.is_used.ensures ∙ c.if-not-is_used.false)

pub returns-clause-found : goal.returns-clause-found
returns-clause-found c = λ e for.
    let text = c.args.text.now in
    let within = c.requires.within in
    let less : c.args.from < length text = omega (arith, c.if-from-text.false) in
    IfOk-weaker c.find_next-2.result _ _
    (λ found next. used_next e text c.args.from c.args.behind c.in_ok-found.found found less (c.in_ok-found.ensures.answer e for) (sym c.is_used.ensures ∙ c.if-not-is_used.false) next)
    (c.find_next-2.ensures.answer e (subst (IsFor e) (sym c.find_next.ensures.same) for))

pub returns-clause-ahead : goal.returns-clause-ahead
returns-clause-ahead c =
    let text = c.args.text.now in
    let within = c.requires.within in
    let e = c.requires.matcher.0 in
    let less : c.args.from < length text = omega (arith, c.if-from-text.false) in
    IfOk-weaker c.find_next-2.result _ _
    (λ found next. used_ahead e text c.args.from c.args.behind found less next)
    (c.find_next-2.ensures.answer e (subst (IsFor e) (sym c.find_next.ensures.same) c.requires.matcher.1))
