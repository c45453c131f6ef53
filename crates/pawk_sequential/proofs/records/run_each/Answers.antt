use Rattle.std.proofs.Common.{◌≡◌, ◌∙◌, ap, sym, rules}
use Rattle.pawk_code.specs.ProgramViews.{code_view}
use Rattle.pawk_input.specs.Input.{item_of}
use Rattle.pawk_store.specs.Records.{one_record, run_part}
use Rattle.pawk_store.specs.Runs.{records_from}
use Rattle.pawk_sequential.specs.Ends.{end_view}
use Rattle.pawk_sequential.proofs.RunLemmas.{last_record, next_record}
use Rattle.pawk_sequential.proofs.records.run_each.Goals as goal

pub returns-then-ends_records : goal.returns-then-ends_records
returns-then-ends_records g c =
    let calls = g.W.World.calls in
    let eres = (code_view c.args.job.code.now).expressions in
    let code = code_view c.args.job.code.now in
    let budget = c.args.job.budget in
    let before = end_view (g.W.World.state c.loop-item.world) c.loop-item.run c.loop-item.left in
    let after = end_view (g.W.World.state c.record.new.world) c.record.new.run c.in_ok-left.left in
    let i = item_of c.in-Some.item in
    let ran : run_part (one_record calls eres code.functions code.rules i) budget before.world before.state before.output ≡ after = search rules in
    let whole = ap (records_from calls eres code budget c.loop-item.skip before) (sym c.in-Some.ensures.steps) ∙ c.loop-item.invariant.same in
    sym whole ∙ last_record calls eres code budget c.loop-item.skip before after i c.next.new.self (sym c.is_skipped.ensures ∙ c.if-is_skipped.false) ran (sym c.ends_records.ensures ∙ c.if-ends_records.true)

pub loop-item-preserved : goal.loop-item-preserved
loop-item-preserved g c =
    let calls = g.W.World.calls in
    let eres = (code_view c.args.job.code.now).expressions in
    let code = code_view c.args.job.code.now in
    let budget = c.args.job.budget in
    let before = end_view (g.W.World.state c.loop-item.world) c.loop-item.run c.loop-item.left in
    let after = end_view (g.W.World.state c.record.new.world) c.record.new.run c.in_ok-left.left in
    let i = item_of c.in-Some.item in
    let ran : run_part (one_record calls eres code.functions code.rules i) budget before.world before.state before.output ≡ after = search rules in
    let whole = ap (records_from calls eres code budget c.loop-item.skip before) (sym c.in-Some.ensures.steps) ∙ c.loop-item.invariant.same in
    let next = next_record calls eres code budget c.loop-item.skip before after i c.next.new.self (sym c.is_skipped.ensures ∙ c.if-is_skipped.false) ran (sym c.ends_records.ensures ∙ c.if-ends_records.false) in
    record { can_next = tt; finite = tt; same = ap (λ s. records_from calls eres code budget s after c.next.new.self) c.file_left-skip.ensures ∙ sym next ∙ whole }
