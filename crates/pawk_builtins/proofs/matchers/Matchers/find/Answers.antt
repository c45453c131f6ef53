use Rattle.std.proofs.Common.{arith, ◌^◌}
use Rattle.pawk_builtins.proofs.MatchLemmas.{answer_settles, answer_inside, answer_before}
use Rattle.pawk_builtins.proofs.matchers.Matchers.find.Goals as goal

pub returns-in-Some-clause-answer : goal.returns-in-Some-clause-answer
returns-in-Some-clause-answer c =
    let text = c.args.text.now in
    let r = c.find_spelled.result in
    rw c.in-Some.ensures (answer_settles c.in-Some.ere.now text r c.find_spelled.ensures.answer c.find_spelled.ensures.fault)

pub returns-in-Some-clause-within : goal.returns-in-Some-clause-within
returns-in-Some-clause-within c = answer_inside _ c.args.text.now c.find_spelled.result (2 ^ 63) c.find_spelled.ensures.answer (omega arith)

pub returns-in-Some-clause-place : goal.returns-in-Some-clause-place
returns-in-Some-clause-place c = answer_before _ c.args.text.now c.find_spelled.result (2 ^ 63) c.find_spelled.ensures.answer (omega arith)
