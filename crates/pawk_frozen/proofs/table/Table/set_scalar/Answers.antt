use Rattle.std.proofs.Common.{◌∙◌, ap, map}
use Rattle.std.specs.Prelude.{slice_set}
use Rattle.std.proofs.lemmas.List.{map-set}
use Rattle.pawk_world.specs.Worlds.{scalar}
use Rattle.pawk_frozen.specs.Marks.{with_mark}
use Rattle.pawk_frozen.specs.MarkViews.{mark_view}
use Rattle.pawk_frozen.proofs.table.Table.set_scalar.Goals as goal

pub returns-then-slot-len : goal.returns-then-slot-len
returns-then-slot-len c =
    let xs = c.self.inside.scalars.items in
    let step = map-set mark_view xs c.args.slot c.set.new.self ∙ ap (slice_set (map mark_view xs) c.args.slot) c.set.ensures in
    ap (λ ms. record { scalars = ms; arrays = c.self.inside.arrays.items }) step
    ∙ ap (with_mark (scalar c.args.slot) (mark_view c.args.mark)) c.self.view_is
