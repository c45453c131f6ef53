use Rattle.std.proofs.Common.{arith, rules, tests}
use Rattle.pawk_builtins.proofs.OccurrenceLemmas.{index_is_none, index_is_some}
use Rattle.pawk_builtins.proofs.occurrence.index.Goals as goal

pub returns-in-Some : goal.returns-in-Some
returns-in-Some c = index_is_some c.args.text.now c.args.sought.now c.in-Some.place (search (rules, tests)) c.in-Some.ensures.1 (λ j below at. c.in-Some.ensures.0.before j (omega arith) below at)

pub returns-in-None : goal.returns-in-None
returns-in-None c = index_is_none c.args.text.now c.args.sought.now (search (rules, tests)) (λ k at. c.in-None.ensures k (omega arith) (omega (arith, at.fits)) at)
