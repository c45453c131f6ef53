use Rattle.std.proofs.Common.{ap, sym, ◌∙◌}
use Rattle.pawk_value.specs.Value.{shown}
use Rattle.pawk_array.specs.Entries.{without}
use Rattle.pawk_array.specs.ArrayViews.{entries_of}
use Rattle.pawk_keyed_map.proofs.PairsLemmas.{without_updated}
use Rattle.pawk_array.proofs.PiecesLemmas.{seen_pairs}
use Rattle.pawk_array.proofs.array.AssociativeArray.remove.Goals as goal

pub returns : goal.returns
returns c =
    let u = c.swap_remove.ensures.updates in
    let ts = c.settle.new.pieces in
    let old = c.settle.new.map.entries in
    let new = c.swap_remove.new.self.entries in
    seen_pairs ts (entries_of new) c.in_ok-settle.ensures.gone
    ∙ without_updated shown c.args.key.now old new u.1 u.3
    ∙ ap (without c.args.key.now) (sym (seen_pairs ts (entries_of old) c.in_ok-settle.ensures.gone) ∙ c.settle.ensures.same ∙ c.self.view_is)
