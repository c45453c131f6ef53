use Rattle.pawk_builtins.proofs.MatchLemmas.{replace_settles}
use Rattle.pawk_builtins.proofs.matchers.Matchers.replace.Goals as goal

pub returns-in-Some-clause-text : goal.returns-in-Some-clause-text
returns-in-Some-clause-text c =
    rw c.in-Some.ensures (replace_settles c.in-Some.ere.now c.args.count c.args.replacement.now c.args.text.now c.replace_spelled.new.out.items c.replace_spelled.result c.replace_spelled.ensures.text c.replace_spelled.ensures.fault)
