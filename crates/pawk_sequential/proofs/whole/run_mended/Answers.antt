use Rattle.std.proofs.Common.{◌∙◌, None, ap, sym}
use Rattle.pawk_code.specs.ProgramViews.{code_view}
use Rattle.pawk_store.specs.Records.{End}
use Rattle.pawk_store.specs.Runs.{after_records, records_from}
use Rattle.pawk_store.specs.declared.left.Left.TheVariants.{Through}
use Rattle.pawk_sequential.specs.Ends.{end_view}
use Rattle.pawk_sequential.proofs.FinishLemmas.{finishes}
use Rattle.pawk_sequential.proofs.whole.run_mended.Goals as goal

pub returns : goal.returns
returns g c =
    let code = code_view c.args.job.code.now in
    let budget = c.args.job.budget in
    let begin = end_view (g.W.World.state c.args.world.now) c.args.run.now Through in
    let ran = ap (records_from g.W.World.calls code.expressions code budget None begin) (sym c.records.ensures.walk) ∙ c.in_ok-left.ensures in
    let told = ap (λ (r : End g.W.World.State). after_records g.W.World.calls code.expressions code budget r.left r) ran ∙ c.in_ok-ending.ensures in
    finishes _ (g.W.World.state c.run_after_records.new.world) c.run_after_records.new.run c.in_ok-ending.ending c.of.result told c.of.ensures.output c.of.ensures.ending c.of.ensures.specials
