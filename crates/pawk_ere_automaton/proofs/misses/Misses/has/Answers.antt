use Rattle.std.proofs.Common.{arith, ◌≡◌, ◌*◌, ◌/◌, subst}
use Rattle.pawk_ere_automaton.specs.Misses.{NoRest}
use Rattle.pawk_ere_automaton.proofs.misses.Misses.has.Goals as goal

pub returns-clause-silent : goal.returns-clause-silent
returns-clause-silent c = λ e text held told.
    let here : 64 * (c.args.place / 64) ≡ c.args.place = omega (arith, c.if-place-ne0.false) in
    subst (λ p. NoRest e c.args.marks.now text p) here (c.holds.ensures e text held told)
