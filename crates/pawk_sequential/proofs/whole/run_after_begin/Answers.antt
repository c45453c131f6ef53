use Rattle.std.proofs.Common.{ap}
use Rattle.pawk_code.specs.ProgramViews.{code_view}
use Rattle.pawk_input.specs.Input.{files_of}
use Rattle.pawk_store.specs.LeftViews.{left_view}
use Rattle.pawk_store.specs.Runs.{after_begin}
use Rattle.pawk_sequential.specs.declared.ending.Ending.TheVariants as ending
use Rattle.pawk_sequential.specs.declared.ending.Place.TheVariants as place
use Rattle.pawk_sequential.specs.Ends.{end_view}
use Rattle.pawk_sequential.proofs.FinishLemmas.{finishes}
use Rattle.pawk_sequential.proofs.whole.run_after_begin.Goals as goal

pub returns-in-Fault-clause-ends : goal.returns-in-Fault-clause-ends
returns-in-Fault-clause-ends g c =
    let eres = (code_view c.args.job.code.now).expressions in
    let code = code_view c.args.job.code.now in
    let told = ap (λ l. after_begin g.W.World.calls eres code c.args.job.budget (files_of c.args.input.now) (left_view l) (end_view (g.W.World.state c.args.world.now) c.args.run l)) c.in-Fault.is in
    finishes _ (g.W.World.state c.args.world.now) c.args.run (ending.Fault c.in-Fault.fault place.Begin) c.of.result told c.of.ensures.output c.of.ensures.ending c.of.ensures.specials

pub returns-in-Clash-clause-ends : goal.returns-in-Clash-clause-ends
returns-in-Clash-clause-ends g c =
    let eres = (code_view c.args.job.code.now).expressions in
    let code = code_view c.args.job.code.now in
    let told = ap (λ l. after_begin g.W.World.calls eres code c.args.job.budget (files_of c.args.input.now) (left_view l) (end_view (g.W.World.state c.args.world.now) c.args.run l)) c.in-Clash.is in
    finishes _ (g.W.World.state c.args.world.now) c.args.run ending.Disallowed c.of-in-Clash.result told c.of-in-Clash.ensures.output c.of-in-Clash.ensures.ending c.of-in-Clash.ensures.specials
