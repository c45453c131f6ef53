use Rattle.std.proofs.Common.{◌≤◌, ◌+◌, arith, length-take}
use Rattle.pawk_input.proofs.PassingLemmas.{none_in_fewer}
use Rattle.pawk_input.proofs.passing.passed_length.Goals as goal

pub returns-in-Some-clause-none : goal.returns-in-Some-clause-none
returns-in-Some-clause-none c = λ some.
    let place = c.in-Some.place in
    let high = c.in-Some.ensures.0.high in
    let low : place + 1 ≤ c.free_length.result = omega (arith, high, length-take c.min-free.result c.args.text.now, c.min-free.ensures) in
    none_in_fewer (place + 1) c.free_length.result c.args.text.now c.args.words.now low (c.free_length.ensures.none (omega arith))
