use Rattle.std.proofs.Common.{◌≡◌, ◌≤◌, length, Some, None, ap, subst, ◌∙◌}
use Rattle.pawk_code.specs.ProgramViews.{code_view}
use Rattle.pawk_input.specs.Input.{files_of}
use Rattle.pawk_store.specs.Runs.{take_separator}
use Rattle.pawk_admit.specs.Roles.{roles_view}
use Rattle.pawk_routes.specs.Prologue.{Goes, end_of}
use Rattle.pawk_routes.specs.Routes.{separator_of}
use Rattle.pawk_routes.specs.declared.report.Route.TheVariants.{Parallel}
use Rattle.pawk_threads.proofs.RouteLemmas.{goes_merged, goes_again}
use Rattle.pawk_threads.proofs.running.run_admitted.Goals as goal

pub returns-in-Some-2-clause-went : goal.returns-in-Some-2-clause-went
returns-in-Some-2-clause-went g c =
    let code = code_view c.args.job.code.now in
    let budget = c.args.job.budget in
    let e = end_of c.args.prologue in
    let t = end_of c.make_ready.new.self in
    let ready = rw c.in-Some.is at c.in_ok-rs.ensures.ready in
    let rs = c.as_slice-2.result.now in
    let text : rs ≡ separator_of e = c.as_slice-2.ensures.value ∙ ready.0 in
    let taken : take_separator rs e ≡ t = ap (λ s. take_separator s e) text ∙ c.in_ok-rs.ensures.taken in
    let short : length (separator_of e) ≤ 1 = subst (λ s. length s ≤ 1) ready.0 ready.1 in
    subst (λ files. Goes code budget files e (Some (c.in-Some-2.outcome, Parallel))) c.make_ready.ensures.same
    (goes_merged code (roles_view c.args.roles.now) budget rs (files_of c.make_ready.new.input) e t taken text c.requires.records c.requires.admissible c.requires.roles short c.in-Some-2.outcome (rw c.in-Some-2.is at c.in_ok-outcome-2.ensures.went))

pub returns-clause-went : goal.returns-clause-went
returns-clause-went g c =
    let code = code_view c.args.job.code.now in
    let budget = c.args.job.budget in
    let e = end_of c.args.prologue in
    let t = end_of c.make_ready.new.self in
    let ready = rw c.in-Some.is at c.in_ok-rs.ensures.ready in
    let rs = c.as_slice-2.result.now in
    let text : rs ≡ separator_of e = c.as_slice-2.ensures.value ∙ ready.0 in
    let taken : take_separator rs e ≡ t = ap (λ s. take_separator s e) text ∙ c.in_ok-rs.ensures.taken in
    subst (λ files. Goes code budget files e None) c.make_ready.ensures.same
    (goes_again code (roles_view c.args.roles.now) budget rs (files_of c.make_ready.new.input) e t taken text c.requires.records c.requires.admissible c.requires.roles (rw c.in-None.is at c.in_ok-outcome-2.ensures.went))
