use Rattle.std.proofs.Common.{◌∙◌, ◌++◌, ap}
use Rattle.pawk_array.specs.Texts.{texts_in}
use Rattle.pawk_noted.specs.Reports.{puts}
use Rattle.pawk_noted.proofs.TracingLemmas.{answers_filled}
use Rattle.pawk_noted.proofs.noted.NotedGlobalsWorld.fill.Goals as goal

pub returns : goal.returns
returns c =
    let s = c.args.self.now.traced in
    let w = c.self.inside in
    let n = c.args.array in
    let text = c.args.text.now in
    let told =
    ap (λ v. v.traced) c.self.view_is
    ∙ c.report.ensures
    ∙ ap (λ rs. record { globals = s.globals; trace = s.trace ++ puts n 0 (texts_in text rs) }) c.as_slice.ensures.value in
    answers_filled n 0 (texts_in text c.args.pieces.items) s (record { globals = w.globals; trace = w.trail.events }) c.fill.result c.fill.new.self told c.fill.ensures
