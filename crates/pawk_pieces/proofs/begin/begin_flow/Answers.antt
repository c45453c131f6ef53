use Rattle.std.proofs.Common.{◌≡◌, ◌∙◌, ◌<◌, ◌≤◌, length, ap, sym, subst}
use Rattle.pawk_code.specs.ProgramViews.{code_view}
use Rattle.pawk_input.specs.Input.{files_of}
use Rattle.pawk_store.specs.Globals.{Globals}
use Rattle.pawk_store.specs.Openings.{pairs_of}
use Rattle.pawk_store.specs.Records.{End}
use Rattle.pawk_store.specs.Runs.{take_separator}
use Rattle.pawk_routes.specs.Prologue.{end_of}
use Rattle.pawk_routes.specs.Routes.{HasRecords, separator_of}
use Rattle.pawk_sequential.specs.RunEnds.{Answers}
use Rattle.pawk_merge_law.specs.Flows.{after_assignments}
use Rattle.pawk_pieces.specs.Operands.{Operands, IsRouteFrom, after_begin_over, assigned}
use Rattle.pawk_pieces.proofs.BeginLemmas.{AreFound, unread, several, route_several, is_start}
use Rattle.pawk_pieces.proofs.begin.begin_flow.Goals as goal

pub returns-then-not-has_records : goal.returns-then-not-has_records
returns-then-not-has_records c =
    let code = code_view c.args.job.code.now in
    let budget = c.args.job.budget in
    let first = pairs_of c.args.first.now in
    let e = end_of c.in_ok-prologue.prologue in
    let others = files_of c.in_ok-input.input in
    let outcome = c.in_ok-outcome.outcome in
    let is = sym c.in_ok-prologue.ensures in
    let none : HasRecords code e → ⊥ = λ h. let bad = sym (c.has_records.ensures.1 h) ∙ c.if-not-has_records.true in absurd cc in
    λ turns last.
    let o : Operands = record { first = first; turns = turns; last = last } in
    subst (λ (x : End Globals). Answers (after_begin_over code budget o x.left x) outcome × (HasRecords code x → ⊥)) is
    (unread code budget e others outcome none c.in_ok-outcome.ensures.outcome o, none)

pub returns-in-Some : goal.returns-in-Some
returns-in-Some c =
    let code = code_view c.args.job.code.now in
    let budget = c.args.job.budget in
    let first = pairs_of c.args.first.now in
    let e = end_of c.in_ok-prologue.prologue in
    let d : End Globals = record e { world = c.assign.new.globals } in
    let t = end_of c.make_ready.new.self in
    let same : d ≡ after_assignments (assigned code.scalars) first e = λ i. record e { world = c.in_ok-assign.ensures i } in
    let ready = rw c.in-Some.is at c.in_ok-separator.ensures.ready in
    let records : HasRecords code e = c.has_records.ensures.0 c.if-not-has_records.false in
    let start = c.in_ok-start_of-in-Some.field-0 in
    let made = c.in_ok-start_of-in-Some.ensures in
    let kept : c.assign.new.globals ≡ start.flow.globals = ap (λ (x : End Globals). x.world) c.in_ok-separator.ensures.taken ∙ sym made.globals in
    let found = subst (λ g. AreFound code g start.roles) kept (subst (AreFound code c.assign.new.globals) (sym made.roles) c.in_ok-roles.ensures) in
    is_start code budget (pairs_of c.args.assignments.now) first e t c.in_ok-prologue.ensures
    (ap (λ x. take_separator (separator_of x) x) (sym same) ∙ c.in_ok-separator.ensures.taken) records
    (c.files_follow.ensures.output tt) c.faults_follow.ensures.output
    start made.globals made.state made.output (made.rs ∙ ready.0 ∙ ap separator_of same) (subst (λ s. length s ≤ 1) (sym made.rs) ready.1) found

pub returns : goal.returns
returns c =
    let code = code_view c.args.job.code.now in
    let budget = c.args.job.budget in
    let first = pairs_of c.args.first.now in
    let e = end_of c.in_ok-prologue.prologue in
    let d : End Globals = record e { world = c.assign.new.globals } in
    let t = end_of c.make_ready.new.self in
    let same : d ≡ after_assignments (assigned code.scalars) first e = λ i. record e { world = c.in_ok-assign.ensures i } in
    let others = files_of c.make_ready.new.input in
    let outcome = c.in_ok-outcome-in-None.outcome in
    let route = c.route_of.result in
    let is = sym c.in_ok-prologue.ensures in
    let taken = ap (λ x. take_separator (separator_of x) x) (sym same) ∙ c.in_ok-separator.ensures.taken in
    let long = subst (λ x. 1 < length (separator_of x)) same (rw c.in-None.is at c.in_ok-separator.ensures.ready) in
    let records : HasRecords code e = c.has_records.ensures.0 c.if-not-has_records.false in
    λ turns last.
    let o : Operands = record { first = first; turns = turns; last = last } in
    subst (λ (x : End Globals). Answers (after_begin_over code budget o x.left x) outcome × IsRouteFrom code budget turns (after_assignments (assigned code.scalars) first x) route) is (
      several code budget first e t taken records others outcome long c.in_ok-outcome-in-None.ensures.outcome turns last,
      route_several code budget first e t taken records c.assign.new.globals c.in_ok-roles.roles route long c.in_ok-roles.ensures c.route_of.ensures turns,
    )
