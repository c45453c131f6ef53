use Rattle.std.proofs.Common.{subst}
use Rattle.pawk_code.specs.ProgramViews.{code_view}
use Rattle.pawk_input.specs.Input.{files_of}
use Rattle.pawk_store.specs.Openings.{pairs_of}
use Rattle.pawk_routes.specs.Prologue.{Goes}
use Rattle.pawk_routes.specs.Routes.{begin_end, whole_run}
use Rattle.pawk_threads.proofs.AllowedLemmas.{told}
use Rattle.pawk_threads.proofs.running.run.Goals as goal

pub returns-in-Some-clause-allowed : goal.returns-in-Some-clause-allowed
returns-in-Some-clause-allowed g c =
    let code = code_view c.args.job.code.now in
    let pairs = pairs_of c.args.assignments.now in
    let files = files_of c.args.input.now in
    let went = subst (Goes code c.args.job.budget files (begin_end code c.args.job.budget pairs)) c.in-Some.is c.in_ok-outcome.ensures.went in
    told (whole_run code c.args.job.budget pairs files) c.in-Some.outcome went.0 (c.never_disallowed.ensures code c.args.job.budget pairs files)

pub returns-in_ok-outcome-in-None-clause-allowed : goal.returns-in_ok-outcome-in-None-clause-allowed
returns-in_ok-outcome-in-None-clause-allowed g c =
    let code = code_view c.args.job.code.now in
    let pairs = pairs_of c.args.assignments.now in
    let files = files_of c.run_once.new.input in
    told (whole_run code c.args.job.budget pairs files) c.in_ok-outcome-in-None.outcome c.in_ok-outcome-in-None.ensures.outcome
    (c.never_disallowed.ensures code c.args.job.budget pairs files)
