use Rattle.std.proofs.Common.{◌∙◌, subst, ◌<◌}
use Rattle.std.proofs.lemmas.Int.{to_z-of_z}
use Rattle.pawk_frozen.proofs.TableLemmas.{scalar_added}
use Rattle.pawk_frozen.specs.Frozens.{signed_amount}
use Rattle.pawk_frozen.proofs.table.Table.add_scalar.Goals as goal

pub returns-then-slot-len : goal.returns-then-slot-len
returns-then-slot-len c =
    let here = simp (to_z-of_z, c.ranges.amount) at c.add.ensures.answer in
    scalar_added c.self.inside.scalars.items c.self.inside.arrays.items c.args.self.now c.args.slot (signed_amount c.args.sign c.args.amount) c.index_mut.result.now c.add.new.self c.add.result c.self.view_is
    (subst (λ n. c.args.slot < n) (c.len.ensures ∙ c.self.inside.scalars.ok.0) c.if-slot-len.true) c.index_mut.ensures.value here
