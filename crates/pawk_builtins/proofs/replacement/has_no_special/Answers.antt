use Rattle.std.proofs.Common.{arith}
use Rattle.pawk_builtins.proofs.ReplacementLemmas.{plain_is}
use Rattle.pawk_builtins.proofs.replacement.has_no_special.Goals as goal

pub returns-in-None : goal.returns-in-None
returns-in-None c = λ found is. plain_is found c.args.replacement.now (λ k below. c.in-None.ensures k (omega arith) below)
