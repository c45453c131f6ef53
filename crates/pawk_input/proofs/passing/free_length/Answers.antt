use Rattle.std.proofs.Common.{arith}
use Rattle.pawk_input.proofs.PassingLemmas.{none_uncut}
use Rattle.pawk_input.proofs.passing.free_length.Goals as goal

pub returns-then-free-look-clause-none : goal.returns-then-free-look-clause-none
returns-then-free-look-clause-none c = λ some.
    none_uncut c.least_place-free.result c.loop-look.look c.args.text.now c.args.words.now (omega arith) (c.least_place-free.ensures.none some)
