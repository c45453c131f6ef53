use Rattle.pawk_builtins.proofs.SplitLemmas.{between_settles}
use Rattle.pawk_builtins.proofs.matchers.Matchers.split_between.Goals as goal

pub returns-in-Some-clause-pieces : goal.returns-in-Some-clause-pieces
returns-in-Some-clause-pieces c =
    rw c.in-Some.ensures (between_settles c.in-Some.ere.now c.args.text.now c.split_fixed.result c.split_fixed.ensures.pieces c.split_fixed.ensures.fault)
