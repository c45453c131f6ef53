use Rattle.std.proofs.Common.{◌∙◌, ap}
use Rattle.std.proofs.lemmas.Result.{on_ok_weaker}
use Rattle.pawk_array.specs.Entries.{with_pieces}
use Rattle.pawk_array.proofs.PiecesLemmas.{fill_empty}
use Rattle.pawk_array.proofs.array.AssociativeArray.fill.Goals as goal

pub returns-then-is_empty-2 : goal.returns-then-is_empty-2
returns-then-is_empty-2 c =
    let a = c.self.inside in
    let none = c.is_empty.ensures.0 c.if-is_empty.true in
    let empty = c.is_empty-then-is_empty.ensures.0 c.if-is_empty-2.true in
    on_ok_weaker c.fill.result
    (λ e. fill_empty c.args.text.now c.args.ranges.items a.pieces c.fill.new.self a.map.entries none empty e ∙ ap (with_pieces 0 c.args.text.now c.args.ranges.items) c.self.view_is)
    c.fill.ensures
