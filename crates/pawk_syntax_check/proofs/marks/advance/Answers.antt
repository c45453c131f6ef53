use Rattle.std.proofs.Common.{Bool, List, sym, subst}
use Rattle.pawk_syntax_check.specs.Marks.{IsForced}
use Rattle.pawk_syntax_check.proofs.Marking.{below_at, forced-step_at}
use Rattle.pawk_syntax_check.proofs.marks.advance.Goals as goal

pub step-requires : goal.step-requires
step-requires c = below_at _ _ _ _ c.if-place-demands.true c.requires

pub returns-in_err-follow : goal.returns-in_err-follow
returns-in_err-follow c = λ k e f.
    let P : List Bool → Type 0 = IsForced k in
    subst P (sym c.step.ensures.marks) (forced-step_at k c.args.demands.now c.args.place _ c.args.marks.now c.if-place-demands.true e f)

pub returns-in_ok-follow : goal.returns-in_ok-follow
returns-in_ok-follow c = λ k e f.
    let P : List Bool → Type 0 = IsForced k in
    subst P (sym c.step.ensures.marks) (forced-step_at k c.args.demands.now c.args.place _ c.args.marks.now c.if-place-demands.true e f)
