use Rattle.std.proofs.Common.{◌≡◌, Bor, Option, Some, None, refl, sym, ◌∙◌, ap}
use Rattle.std.specs.Option.{option_map, option_copied}
use Rattle.pawk_keyed_map.specs.Keyed.{found}
use Rattle.pawk_keyed_map.proofs.PairsLemmas.{found-seen_by}
use Rattle.pawk_frozen.specs.MarkViews.{mark_view}
use Rattle.pawk_frozen.specs.declared.mark.CellMark.{CellMark}
use Rattle.pawk_compose.proofs.array.ArrayMarks.get.Goals as goal

behind : (r : Option (Bor CellMark)) → option_map (λ (mark : Bor CellMark). mark_view mark.now) r ≡ option_map mark_view (option_copied r)
behind None = refl
behind (Some mark) = refl

pub returns : goal.returns
returns c =
    behind c.get.result
    ∙ ap (option_map mark_view) c.get.ensures.value
    ∙ sym (found-seen_by mark_view c.args.key.now c.self.inside.map.entries)
    ∙ ap (found c.args.key.now) c.self.view_is
