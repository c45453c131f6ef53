use Rattle.std.proofs.Common.{◌∙◌, ◌<◌, ◌≤◌, ap, length, map, subst}
use Rattle.pawk_value.specs.Value.{shown}
use Rattle.pawk_store.proofs.PiecesLemmas.{filled_at, filled_past}
use Rattle.pawk_store.proofs.globals.GlobalsWorld.fill.Goals as goal

pub returns-in_ok-fill : goal.returns-in_ok-fill
returns-in_ok-fill c =
    let arrays = c.self.inside.arrays in
    filled_at (map shown c.self.inside.scalars.items) arrays.items c.args.self.now c.args.array c.args.text.now c.args.pieces.items c.index_mut.result.now c.fill.new.self
    c.self.view_is
    (subst (λ n. c.args.array < n) (c.len.ensures ∙ arrays.ok.0) c.if-array-len.true)
    c.index_mut.ensures.value c.in_ok-fill.ensures

pub returns-else-array-len : goal.returns-else-array-len
returns-else-array-len c =
    let size = c.len.ensures ∙ c.self.inside.arrays.ok.0 ∙ ap (λ g. length g.arrays) c.self.view_is in
    filled_past c.args.self.now c.args.array c.args.text.now c.args.pieces.items (subst (λ n. n ≤ c.args.array) size c.if-array-len.false)
