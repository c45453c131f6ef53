use Rattle.std.proofs.Common.{◌<◌, length, arith}
use Rattle.pawk_admit.proofs.Closures.{unset, second}
use Rattle.pawk_admit.proofs.reach.reach.Goals as goal

pub returns-in_ok-function-clause-list : goal.returns-in_ok-function-clause-list
returns-in_ok-function-clause-list c =
    let flags = c.args.flags.now.items in
    let within : c.args.slot < length flags = omega arith in
    second _ _ _ (unset flags c.args.slot c.index.result.now within c.index.ensures c.if-not-index.true) c.in_ok-function.ensures
