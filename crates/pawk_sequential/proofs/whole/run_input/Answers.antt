use Rattle.std.proofs.Common.{◌∙◌, ◌<◌, ◌≤◌, length, None, IfOk, sym, refl, subst}
use Rattle.pawk_code.specs.ProgramViews.{code_view}
use Rattle.pawk_input.specs.Input.{files_of, items}
use Rattle.pawk_store.specs.Slots.{rs_slot}
use Rattle.pawk_value.specs.Conversion.{text_of}
use Rattle.pawk_value.specs.declared.faults.Fault.TheVariants as faults
use Rattle.pawk_store.specs.Runs.{records_from}
use Rattle.pawk_store.specs.declared.left.Left.TheVariants.{Through}
use Rattle.pawk_sequential.specs.declared.ending.Ending.TheVariants as ending
use Rattle.pawk_sequential.specs.declared.ending.Place.TheVariants as place
use Rattle.pawk_sequential.specs.Ends.{end_view}
use Rattle.pawk_sequential.specs.RunEnds.{Finishes, run_and_end}
use Rattle.pawk_sequential.proofs.FinishLemmas.{finishes, rs_faults, rs_goes}
use Rattle.pawk_sequential.proofs.whole.run_input.Goals as goal

pub returns-clause-ends : goal.returns-clause-ends
returns-clause-ends g c =
    let code = code_view c.args.job.code.now in
    let budget = c.args.job.budget in
    let world = g.W.World.state c.args.world.now in
    let run = c.make_ready.new.run in
    let text = text_of (g.W.World.calls.look rs_slot world) in
    let fault = ending.Fault faults.Rs (place.Record 1) in
    let long : 1 < length text = rw c.in-None.is at c.in_ok-rs.ensures.ready in
    let told = rs_faults g.W.World.calls code.expressions code budget text text (files_of c.args.input.now) (end_view world c.args.run Through) (end_view world run Through) refl long c.in_ok-rs.ensures.taken in
    finishes _ world run fault c.of.result told c.of.ensures.output c.of.ensures.ending c.of.ensures.specials

pub returns-in-Some-clause-ends : goal.returns-in-Some-clause-ends
returns-in-Some-clause-ends g c =
    let code = code_view c.args.job.code.now in
    let budget = c.args.job.budget in
    let world = g.W.World.state c.args.world.now in
    let text = text_of (g.W.World.calls.look rs_slot world) in
    let files = files_of c.args.input.now in
    let taken = end_view world c.make_ready.new.run Through in
    let ready = rw c.in-Some.is at c.in_ok-rs.ensures.ready in
    let short : length text ≤ 1 = subst (λ t. length t ≤ 1) ready.0 ready.1 in
    let bytes = c.as_slice.ensures.value ∙ ready.0 in
    let told = rs_goes g.W.World.calls code.expressions code budget text text files (end_view world c.args.run Through) taken (records_from g.W.World.calls code.expressions code budget None taken (items text files)) (run_and_end g.W.World.calls code budget (items text files) taken) refl short c.in_ok-rs.ensures.taken refl refl in
    let ends = told ∙ (λ i. run_and_end g.W.World.calls code budget (items (sym bytes i) (sym c.make_ready.ensures.same i)) taken) in
    subst (λ f. IfOk c.run_mended.result (Finishes f (g.W.World.state c.run_mended.new.world))) (sym ends) c.run_mended.ensures
