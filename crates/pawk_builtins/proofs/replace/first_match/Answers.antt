use Rattle.std.proofs.lemmas.Result.{IfOk-weaker}
use Rattle.pawk_builtins.proofs.ReplaceLemmas.{first_is, first_ahead}
use Rattle.pawk_builtins.proofs.replace.first_match.Goals as goal

pub returns-clause-found : goal.returns-clause-found
returns-clause-found c = λ e for. IfOk-weaker c.find.result _ _ (first_is e c.args.text.now) (c.find.ensures.answer e for)

pub returns-clause-ahead : goal.returns-clause-ahead
returns-clause-ahead c =
    let e = c.requires.matcher.0 in
    IfOk-weaker c.find.result _ _ (first_ahead e c.args.text.now) (c.find.ensures.answer e c.requires.matcher.1)
