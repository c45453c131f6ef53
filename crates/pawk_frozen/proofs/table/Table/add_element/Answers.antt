use Rattle.std.proofs.lemmas.Int.{to_z-of_z}
use Rattle.pawk_frozen.specs.Frozens.{signed_amount}
use Rattle.pawk_frozen.specs.MarkViews.{mark_view}
use Rattle.std.proofs.Common.{◌∙◌, ◌<◌, map, subst}
use Rattle.pawk_frozen.proofs.TableLemmas.{element_added}
use Rattle.pawk_frozen.proofs.table.Table.add_element.Goals as goal

pub returns-then-array-len : goal.returns-then-array-len
returns-then-array-len c =
    let here = simp (to_z-of_z, c.ranges.amount) at c.add.ensures in
    element_added (map mark_view c.self.inside.scalars.items) c.self.inside.arrays.items c.args.self.now c.args.array c.args.key.now (signed_amount c.args.sign c.args.amount)
    c.index_mut.result.now c.add.new.self c.add.result c.self.view_is
    (subst (λ n. c.args.array < n) (c.len.ensures ∙ c.self.inside.arrays.ok.0) c.if-array-len.true) c.index_mut.ensures.value here
