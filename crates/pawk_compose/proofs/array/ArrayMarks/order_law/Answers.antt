use Rattle.std.proofs.Common.{subst}
use Rattle.pawk_keyed_map.specs.Keyed.{Rise}
use Rattle.pawk_keyed_map.proofs.PairsLemmas.{rise-seen_by}
use Rattle.pawk_frozen.specs.MarkViews.{mark_view}
use Rattle.pawk_compose.proofs.array.ArrayMarks.order_law.Goals as goal

pub returns : goal.returns
returns c = subst Rise c.self.view_is (rise-seen_by mark_view c.self.inside.map.entries)
