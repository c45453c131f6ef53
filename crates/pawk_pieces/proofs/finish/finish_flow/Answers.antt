use Rattle.std.proofs.Common.{◌∙◌, subst}
use Rattle.pawk_code.specs.ProgramViews.{code_view}
use Rattle.pawk_store.specs.StateViews.{state_of}
use Rattle.pawk_store.specs.LeftViews.{left_view}
use Rattle.pawk_sequential.specs.RunEnds.{Answers}
use Rattle.pawk_sequential.proofs.FinishLemmas.{answers}
use Rattle.pawk_pieces.proofs.FinishLemmas.{goes_on}
use Rattle.pawk_pieces.proofs.finish.finish_flow.Goals as goal

pub returns : goal.returns
returns c =
    let run = c.in_ok-run.run' in
    let same = goes_on (code_view c.args.job.code.now) c.args.job.budget (left_view c.args.left) c.args.flow.globals (state_of run.state) c.args.flow.state run.output.items
    (c.in_ok-run.ensures.state ∙ c.lend.ensures) c.in_ok-run.ensures.output in
    subst (λ f. Answers f c.of.result) same (answers _ c.end_run.new.globals c.in_ok-finish.finish c.of.result c.in_ok-finish.ensures c.of.ensures)
