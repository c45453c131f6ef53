use Rattle.std.proofs.Common.{Option, sym, subst}
use Rattle.std.specs.Prelude.{MatchOption}
use Rattle.pawk_code.specs.ProgramViews.{code_view}
use Rattle.pawk_input.specs.Input.{files_of, items}
use Rattle.pawk_admit.specs.Roles.{roles_view}
use Rattle.pawk_merge.specs.declared.merging.Merged.{Merged}
use Rattle.pawk_merge_law.specs.Phases.{FaultsOrCreates}
use Rattle.pawk_sequential.specs.RunEnds.{Answers}
use Rattle.pawk_routes.specs.Prologue.{IsMerged, end_of}
use Rattle.pawk_routes.specs.Routes.{phase_after}
use Rattle.pawk_threads.proofs.chunked.run_plan.Goals as goal

pub returns-in_ok-go_on_merged-in-Some-clause-went : goal.returns-in_ok-go_on_merged-in-Some-clause-went
returns-in_ok-go_on_merged-in-Some-clause-went g c =
    let code = code_view c.args.job.code.now in
    let budget = c.args.job.budget in
    let rs = c.args.source.rs.now in
    let files = files_of c.args.source.input.now in
    let e = end_of c.args.prologue in
    let stops = FaultsOrCreates (phase_after code (roles_view c.args.roles.now) budget e) (items rs files) in
    let told = subst (λ (o : Option Merged). MatchOption o stops (λ m. IsMerged code budget rs files e c.merge_plan.new.prologue m × ¬ stops)) c.in-Some.is c.in_ok-merged.ensures.went in
    (subst (λ f. Answers f c.in_ok-go_on_merged-in-Some.field-0) (sym told.0) c.in_ok-go_on_merged-in-Some.ensures, told.1)
