use Rattle.std.proofs.Common.{ℕ, Bool, List, sym, ◌∙◌, subst}
use Rattle.pawk_syntax_check.specs.Marks.{AreBelow, IsForced}
use Rattle.pawk_syntax_check.proofs.Marking.{steps_settled, forced-steps, less-steps}
use Rattle.pawk_syntax_check.proofs.marks.spread.Goals as goal

pub loop-smaller : goal.loop-smaller
loop-smaller c =
    let ds = c.args.demands.now in
    let P : ℕ → Type 0 = λ n. AreBelow n ds in
    let below = subst P (sym c.loop.auto.marks) c.requires in
    rw c.steps.ensures.marks (less-steps ds c.loop.marks below (sym c.steps.ensures.change ∙ c.loop-test.true))

pub loop-preserved : goal.loop-preserved
loop-preserved c = λ k e f.
    let P : List Bool → Type 0 = IsForced k in
    subst P (sym c.steps.ensures.marks) (forced-steps k c.args.demands.now c.loop.marks (c.loop.invariant k e f) e)

pub returns-clause-settled : goal.returns-clause-settled
returns-clause-settled c =
    let done = steps_settled c.args.demands.now c.loop.marks (sym c.steps.ensures.change ∙ c.loop-test.false) in
    rw (c.steps.ensures.marks, done.0) done.1

pub returns-clause-forced : goal.returns-clause-forced
returns-clause-forced c = λ k e f.
    let P : List Bool → Type 0 = IsForced k in
    subst P (sym c.steps.ensures.marks) (forced-steps k c.args.demands.now c.loop.marks (c.loop.invariant k e f) e)
