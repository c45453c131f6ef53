use Rattle.std.proofs.Common.{Some, sym, subst}
use Rattle.pawk_code.specs.ProgramViews.{code_view}
use Rattle.pawk_input.specs.Input.{files_of}
use Rattle.pawk_store.specs.Openings.{pairs_of}
use Rattle.pawk_admit.specs.Reaches.{Occurs}
use Rattle.pawk_routes.specs.Prologue.{Goes, end_of}
use Rattle.pawk_routes.specs.Cuttings.{HasNoPlan}
use Rattle.pawk_routes.specs.declared.report.Route.TheVariants.{NotAdmitted}
use Rattle.pawk_threads.proofs.BeginLemmas.{none_read}
use Rattle.pawk_threads.proofs.RouteLemmas.{first_reason}
use Rattle.pawk_threads.proofs.running.run_once.Goals as goal

pub run_admitted-requires-clause-unread : goal.run_admitted-requires-clause-unread
run_admitted-requires-clause-unread g c κs within =
    none_read (code_view c.args.job.code.now) c.args.job.budget (pairs_of c.args.assignments.now) (end_of c.in_ok-prologue.prologue) c.in_ok-prologue.ensures

pub returns-in-Ok-clause-refused : goal.returns-in-Ok-clause-refused
returns-in-Ok-clause-refused g c = λ is.
    subst (λ e. HasNoPlan (code_view c.args.job.code.now) e (files_of c.args.input.now) c.args.way.cutting.now) (sym c.in_ok-prologue.ensures) (c.run_admitted.ensures.refused is)

pub returns-in_ok-finish-in-Err-clause-went : goal.returns-in_ok-finish-in-Err-clause-went
returns-in_ok-finish-in-Err-clause-went g c =
    let code = code_view c.args.job.code.now in
    let first = first_reason (Occurs code) c.is_memory.result c.in-Err.reason c.if-is_memory.false c.is_memory.ensures.1 c.in-Err.ensures.reason in
    subst (λ e. Goes code c.args.job.budget (files_of c.args.input.now) e (Some (c.in_ok-finish-in-Err.finish, NotAdmitted c.in-Err.reason))) (sym c.in_ok-prologue.ensures)
    (c.in_ok-finish-in-Err.ensures.outcome, (c.has_records.ensures.0 c.if-not-has_records.false, first))

pub returns-in_ok-finish-in-Err-clause-accepted : goal.returns-in_ok-finish-in-Err-clause-accepted
returns-in_ok-finish-in-Err-clause-accepted g c = λ none.
    let first = first_reason (Occurs (code_view c.args.job.code.now)) c.is_memory.result c.in-Err.reason c.if-is_memory.false c.is_memory.ensures.1 c.in-Err.ensures.reason in
    none.0.1 c.in-Err.reason first.0
