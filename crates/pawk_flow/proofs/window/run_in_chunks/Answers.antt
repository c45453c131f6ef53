use Rattle.std.proofs.Common.{◌∙◌, ap, sym, subst}
use Rattle.pawk_store.specs.RecordStates.{RecordState}
use Rattle.pawk_store.specs.Outputs.{in_a_row}
use Rattle.pawk_store.specs.LeftViews.{left_view}
use Rattle.pawk_chunks.specs.Task.{items_in}
use Rattle.pawk_flow.specs.Stages.{WentFar, phase_in}
use Rattle.pawk_flow.proofs.FarLemmas.{far, left_out, went}
use Rattle.pawk_flow.proofs.window.run_in_chunks.Goals as goal

pub run_on-requires-clause-left : goal.run_on-requires-clause-left
run_on-requires-clause-left g c =
    left_out c.args.job c.args.roles.now c.args.prologue c.args.source c.merge_chunks.new.prologue.globals c.in_ok-extent.extent
    (far c.args.job c.args.roles.now c.args.prologue c.args.source c.results_merge_far.ensures c.requires.ready c.requires.placed c.requires.numbered
    c.merge_chunks.new.prologue.globals c.in_ok-extent.extent c.in_ok-extent.ensures.far)

pub returns-clause-ends : goal.returns-clause-ends
returns-clause-ends g c =
    let before = c.merge_chunks.new.prologue.globals in
    let after = c.run_on.new.prologue.globals in
    let r = c.in_ok-remnant.remnant in
    let law = far c.args.job c.args.roles.now c.args.prologue c.args.source c.results_merge_far.ensures c.requires.ready c.requires.placed c.requires.numbered
    before c.in_ok-extent.extent c.in_ok-extent.ensures.far in
    let told = went c.args.job c.args.roles.now c.args.prologue c.args.source before after c.in_ok-extent.extent r law c.in_ok-remnant.ensures in
    told.0 ∙ ap (λ (s : RecordState). record { world = after; state = s; output = in_a_row r.outputs.items; left = left_view r.left }) (sym c.in_ok-keep.ensures)

pub returns-clause-went : goal.returns-clause-went
returns-clause-went g c =
    let before = c.merge_chunks.new.prologue.globals in
    let after = c.run_on.new.prologue.globals in
    let r = c.in_ok-remnant.remnant in
    let law = far c.args.job c.args.roles.now c.args.prologue c.args.source c.results_merge_far.ensures c.requires.ready c.requires.placed c.requires.numbered
    before c.in_ok-extent.extent c.in_ok-extent.ensures.far in
    let told = went c.args.job c.args.roles.now c.args.prologue c.args.source before after c.in_ok-extent.extent r law c.in_ok-remnant.ensures in
    subst (λ (s : RecordState). WentFar (phase_in c.args.job c.args.roles.now c.args.prologue) (items_in c.args.source)
    (record { world = after; state = s; output = in_a_row r.outputs.items; left = left_view r.left }) r.is_stopped) (sym c.in_ok-keep.ensures) told.1
