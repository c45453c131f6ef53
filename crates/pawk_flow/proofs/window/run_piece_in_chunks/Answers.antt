use Rattle.std.proofs.Common.{◌≡◌, ◌∙◌, ◌<◌, ap, inr, subst, sym}
use Rattle.pawk_code.specs.ProgramViews.{code_view}
use Rattle.pawk_input.specs.Input.{files_of, file_at}
use Rattle.pawk_records.specs.Records.{records_by}
use Rattle.pawk_admit.specs.Roles.{roles_view}
use Rattle.std.specs.List.{flat_map}
use Rattle.pawk_input.specs.Plan.{chunk_items}
use Rattle.pawk_store.specs.Globals.{Globals}
use Rattle.pawk_store.specs.Records.{End}
use Rattle.pawk_merge_law.specs.Phases.{MayRun}
use Rattle.pawk_routes.specs.Prologue.{end_of}
use Rattle.pawk_pieces.specs.Pieces.{end_between}
use Rattle.pawk_flow.specs.Stages.{flow_end}
use Rattle.pawk_pieces.proofs.NumberedLemmas.{numbered_on}
use Rattle.pawk_flow.proofs.PieceLemmas.{goes, order_at, runs, same_phase}
use Rattle.pawk_flow.proofs.window.run_piece_in_chunks.Goals as goal

pub run_in_chunks-requires-clause-chunked : goal.run_in_chunks-requires-clause-chunked
run_in_chunks-requires-clause-chunked g c κs within = record {
  one_byte = c.requires.one_byte;
  ready = c.in_ok-input.ensures.ready c.args.piece.rs.now;
  planned = inr c.in_ok-plan-2.ensures.placed;
}

pub run_in_chunks-requires-clause-ready : goal.run_in_chunks-requires-clause-ready
run_in_chunks-requires-clause-ready g c κs within =
    let begins : end_of c.in_ok-prologue.prologue ≡ end_between c.args.flow =
    c.in_ok-prologue.ensures.end ∙ ap (flow_end c.args.flow.globals) c.lend-state.ensures in
    subst MayRun (sym (same_phase c.args.job c.args.roles.now c.in_ok-prologue.prologue c.args.flow begins)) c.requires.ready

pub run_in_chunks-requires-clause-numbered : goal.run_in_chunks-requires-clause-numbered
run_in_chunks-requires-clause-numbered g c κs within =
    let rs = c.args.piece.rs.now in
    let f = file_at (files_of c.in_ok-input.input) 0 in
    let nr = c.lend-state.result.nr in
    let same : c.in_ok-prologue.prologue.run.state.nr ≡ nr = ap (λ (e : End Globals). e.state.nr) c.in_ok-prologue.ensures.end in
    numbered_on c.in_ok-prologue.prologue.run.state.nr nr c.args.piece.fnr f.name (records_by rs f.bytes)
    (flat_map (chunk_items rs (files_of c.in_ok-input.input)) c.in_ok-plan-2.plan) same c.in_ok-plan-2.ensures.records

pub returns-clause-runs : goal.returns-clause-runs
returns-clause-runs g c =
    let code = code_view c.args.job.code.now in
    let budget = c.args.job.budget in
    let begins : end_of c.in_ok-prologue.prologue ≡ end_between c.args.flow =
    c.in_ok-prologue.ensures.end ∙ ap (flow_end c.args.flow.globals) c.lend-state.ensures in
    let many = c.len-chunks.ensures in
    runs c.args.piece (files_of c.in_ok-input.input) c.in_ok-plan-2.plan c.lend-state.result.nr
    c.in_ok-input.ensures.file c.in_ok-plan-2.ensures.placed c.in_ok-plan-2.ensures.records code budget c.args.flow c.in_ok-flow.flow
    (c.numbers_alike.ensures.numbers tt) (c.numbers_alike.ensures.fnr tt) c.in_ok-flow.end c.close.result
    (order_at _ _ _ _ (same_phase c.args.job c.args.roles.now c.in_ok-prologue.prologue c.args.flow begins) c.in_ok-flow.ensures.ends)
    c.in_ok-flow.ensures.fnr c.close.ensures.same (λ h. c.close.ensures.none (many ∙ h)) (λ h. c.close.ensures.some (subst (λ n. 0 < n) (sym many) h))

pub returns-clause-goes : goal.returns-clause-goes
returns-clause-goes g c =
    let code = code_view c.args.job.code.now in
    let budget = c.args.job.budget in
    let begins : end_of c.in_ok-prologue.prologue ≡ end_between c.args.flow =
    c.in_ok-prologue.ensures.end ∙ ap (flow_end c.args.flow.globals) c.lend-state.ensures in
    goes c.args.piece (files_of c.in_ok-input.input) c.in_ok-plan-2.plan c.lend-state.result.nr
    c.in_ok-input.ensures.file c.in_ok-plan-2.ensures.placed c.in_ok-plan-2.ensures.records code budget c.args.flow c.in_ok-flow.flow
    c.faults_follow.ensures.numbers (roles_view c.args.roles.now) _ c.in_ok-flow.end c.close.result
    (same_phase c.args.job c.args.roles.now c.in_ok-prologue.prologue c.args.flow begins)
    c.close.ensures.same c.in_ok-flow.ensures.went
