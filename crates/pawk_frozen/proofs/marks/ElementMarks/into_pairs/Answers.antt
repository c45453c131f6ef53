use Rattle.pawk_frozen.specs.MarkViews.{mark_view}
use Rattle.pawk_keyed_map.proofs.PairsLemmas.{occur_once}
use Rattle.pawk_frozen.proofs.marks.ElementMarks.into_pairs.Goals as goal

pub invariant_of-result : goal.invariant_of-result
invariant_of-result c =
    rw c.into_iter.ensures.into_iter_gives.0 (occur_once mark_view c.self.inside.map.entries c.into_iter.ensures.into_iter_gives.4)
