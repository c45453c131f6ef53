use Rattle.std.proofs.Common.{◌≡◌, ◌∙◌, ◌++◌, Vec, Global, ℕ, ap, sym, refl, not, true}
use Rattle.pawk_code.specs.ProgramViews.{code_view}
use Rattle.pawk_store.specs.StateViews.{state_of}
use Rattle.pawk_store.specs.Outputs.{in_a_row}
use Rattle.pawk_store.specs.LeftViews.{left_view}
use Rattle.pawk_merge.proofs.MergeLemmas.{in_a_row-push}
use Rattle.pawk_routes.specs.Prologue.{end_of}
use Rattle.pawk_flow.proofs.FarLemmas.{goes_on}
use Rattle.pawk_flow.proofs.window.run_on.Goals as goal

pub returns : goal.returns
returns c =
    let m = c.args.extent.merged in
    let texts = in_a_row m.outputs.items in
    let new = c.run_from.new.prologue in
    let written : in_a_row c.push.new.self.items ≡ texts ++ new.run.output.items =
    ap in_a_row c.in_ok-push.ensures.items ∙ in_a_row-push m.outputs.items c.replace.result
    ∙ ap (λ (v : Vec ℕ Global). texts ++ v.items) c.replace.ensures.value in
    goes_on (code_view c.args.job.code.now) c.args.job.budget c.args.source c.args.prologue.now.globals new.globals c.args.extent
    (record { outputs = c.push.new.self; left = new.left; state = c.replace-2.result; is_stopped = true })
    _ (end_of new) c.len.result (c.is_none.ensures ∙ ap not c.if-is_none.false)
    (λ i. record { world = c.args.prologue.now.globals; state = state_of m.state; output = c.requires.output i; left = left_view m.left })
    (c.len.ensures ∙ m.outputs.ok.0) c.in_ok-run_from.ensures
    (λ i. record { world = new.globals; state = state_of (sym c.replace-2.ensures.value i); output = sym written i; left = left_view new.left })
    refl
