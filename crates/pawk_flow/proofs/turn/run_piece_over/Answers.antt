use Rattle.std.proofs.Common.{◌≡◌, ◌∙◌, ◌<◌, inr, subst, sym}
use Rattle.pawk_code.specs.ProgramViews.{code_view}
use Rattle.pawk_input.specs.Input.{files_of}
use Rattle.pawk_store.specs.Records.{through}
use Rattle.pawk_store.specs.declared.left.Left.TheVariants.{Through}
use Rattle.pawk_pieces.specs.Ends.{end_view}
use Rattle.pawk_pieces.specs.Pieces.{passed_end}
use Rattle.pawk_flow.specs.Stages.{flow_end}
use Rattle.pawk_flow.proofs.PieceLemmas.{begins_at, counted, passed, same_end}
use Rattle.pawk_flow.proofs.turn.run_piece_over.Goals as goal

pub run_in_turn-requires-clause-chunked : goal.run_in_turn-requires-clause-chunked
run_in_turn-requires-clause-chunked g c = record {
  one_byte = c.requires.one_byte;
  ready = c.in_ok-input.ensures.ready c.args.piece.rs.now;
  planned = inr c.in_ok-plan-2.ensures.placed;
}

pub returns-clause-ends : goal.returns-clause-ends
returns-clause-ends g c =
    let code = code_view c.args.job.code.now in
    let budget = c.args.job.budget in
    let w = g.W.World.state c.args.world.now in
    let v = g.W.World.state c.run_in_turn.new.world in
    let run = c.in_ok-run.run' in
    let begins : end_view w run Through ≡ flow_end w c.args.kept =
    λ i. record { world = w; state = (c.in_ok-run.ensures.state ∙ c.lend.ensures) i; output = c.in_ok-run.ensures.output i; left = through } in
    passed c.args.piece (files_of c.in_ok-input.input) c.in_ok-plan-2.plan c.args.piece.fnr
    c.in_ok-input.ensures.file c.in_ok-plan-2.ensures.placed c.in_ok-plan-2.ensures.records g.W.World.calls code budget
    (flow_end w c.args.kept) (passed_end v c.in_ok-state.state c.close.result)
    (begins_at g.W.World.calls code budget _ _ _ _ begins c.in_ok-state.ensures.ends ∙ same_end v c.in_ok-state.state c.in_ok-state.end c.close.result c.close.ensures.same)
    c.requires.numbers

pub returns-clause-counts : goal.returns-clause-counts
returns-clause-counts g c = λ on.
    let code = code_view c.args.job.code.now in
    let budget = c.args.job.budget in
    let w = g.W.World.state c.args.world.now in
    let v = g.W.World.state c.run_in_turn.new.world in
    let run = c.in_ok-run.run' in
    let many = c.len-chunks.ensures in
    let begins : end_view w run Through ≡ flow_end w c.args.kept =
    λ i. record { world = w; state = (c.in_ok-run.ensures.state ∙ c.lend.ensures) i; output = c.in_ok-run.ensures.output i; left = through } in
    counted c.args.piece (files_of c.in_ok-input.input) c.in_ok-plan-2.plan c.args.piece.fnr
    c.in_ok-input.ensures.file c.in_ok-plan-2.ensures.placed c.in_ok-plan-2.ensures.records g.W.World.calls code budget
    (flow_end w c.args.kept) (passed_end v c.in_ok-state.state c.close.result)
    (begins_at g.W.World.calls code budget _ _ _ _ begins c.in_ok-state.ensures.ends ∙ same_end v c.in_ok-state.state c.in_ok-state.end c.close.result c.close.ensures.same)
    c.requires.fnr c.close.result.fnr
    (λ h. c.close.ensures.none (many ∙ h)) (λ h. c.close.ensures.some (subst (λ n. 0 < n) (sym many) h) ∙ c.in_ok-state.ensures.fnr) on
