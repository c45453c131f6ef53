use Rattle.std.proofs.Common.{◌∙◌, ap, map}
use Rattle.std.specs.Prelude.{slice_set}
use Rattle.std.proofs.lemmas.List.{map-set}
use Rattle.pawk_value.specs.Value.{lent_value}
use Rattle.pawk_world.specs.Worlds.{scalar}
use Rattle.pawk_frozen.specs.Marks.{last_put, with_mark}
use Rattle.pawk_frozen.specs.MarkViews.{mark_view}
use Rattle.pawk_frozen.proofs.table.Table.put_scalar.Goals as goal

pub returns-in_ok-put : goal.returns-in_ok-put
returns-in_ok-put c =
    let xs = c.self.inside.scalars.items in
    let step = map-set mark_view xs c.args.slot c.put.new.self ∙ ap (slice_set (map mark_view xs) c.args.slot) c.in_ok-put.ensures in
    ap (λ ms. record { scalars = ms; arrays = c.self.inside.arrays.items }) step
    ∙ ap (with_mark (scalar c.args.slot) (last_put (lent_value c.args.value))) c.self.view_is
