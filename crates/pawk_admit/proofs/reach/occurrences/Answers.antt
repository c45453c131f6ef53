use Rattle.std.proofs.Common.{◌≡◌, ◌<◌, length, map, arith, ap, ◌∙◌}
use Rattle.pawk_code.specs.ProgramViews.{code_view, function_view}
use Rattle.pawk_admit.proofs.Closures.{step_of_call, step_of_other, finish}
use Rattle.pawk_admit.proofs.reach.occurrences.Goals as goal
use Rattle.pawk_admit.proofs.reach.occurrences.Goals.{in-Call+in_ok-reach, in_default}

pub loop-next-preserved : goal.loop-next-preserved
loop-next-preserved c =
    let code = code_view c.args.code.now in
    let list = c.loop-next.list.items in
    let flags = c.loop-next.flags.items in
    let within : c.loop-next.next < length list = omega arith in
    elim c.match-index.branch [
      | in-Call+in_ok-reach w ↦
          let fs = map function_view w.deref-in-Call.result.now in
          let same : fs ≡ code.functions = ap (map function_view) w.deref-in-Call.ensures.value in
          (step_of_call code fs c.index.result.now list c.match-index.list.items flags c.match-index.flags.items c.loop-next.next
          w.in-Call.slot c.loop-next.invariant within c.index.ensures w.in-Call.is same
          (ap (λ v. v.items) w.flags-is ∙ w.in_ok-reach.ensures.flags) (rw w.list-is w.in_ok-reach.ensures.list)).0
      | in_default w ↦
          (step_of_other code c.index.result.now list c.match-index.list.items flags c.match-index.flags.items c.loop-next.next
          c.loop-next.invariant within c.index.ensures w.in_default.not-Call
          (ap (λ v. v.items) w.list-is) (ap (λ v. v.items) w.flags-is)).0
    ]

pub loop-next-smaller : goal.loop-next-smaller
loop-next-smaller c =
    let code = code_view c.args.code.now in
    let list = c.loop-next.list.items in
    let flags = c.loop-next.flags.items in
    let within : c.loop-next.next < length list = omega arith in
    elim c.match-index.branch [
      | in-Call+in_ok-reach w ↦
          let fs = map function_view w.deref-in-Call.result.now in
          let same : fs ≡ code.functions = ap (map function_view) w.deref-in-Call.ensures.value in
          (step_of_call code fs c.index.result.now list c.match-index.list.items flags c.match-index.flags.items c.loop-next.next
          w.in-Call.slot c.loop-next.invariant within c.index.ensures w.in-Call.is same
          (ap (λ v. v.items) w.flags-is ∙ w.in_ok-reach.ensures.flags) (rw w.list-is w.in_ok-reach.ensures.list)).1
      | in_default w ↦
          (step_of_other code c.index.result.now list c.match-index.list.items flags c.match-index.flags.items c.loop-next.next
          c.loop-next.invariant within c.index.ensures w.in_default.not-Call
          (ap (λ v. v.items) w.list-is) (ap (λ v. v.items) w.flags-is)).1
    ]

pub returns : goal.returns
returns c = finish (code_view c.args.code.now) c.loop-next.list.items c.loop-next.flags.items c.loop-next.next c.loop-next.invariant (omega arith)
