use Rattle.pawk_frozen.specs.MarkViews.{mark_view}
use Rattle.pawk_keyed_map.proofs.PairsLemmas.{occur_once}
use Rattle.pawk_frozen.proofs.marks.ElementMarks.pairs.Goals as goal

pub invariant_of-result : goal.invariant_of-result
invariant_of-result c =
    rw c.iter.ensures.rest (occur_once mark_view c.self.inside.map.entries c.iter.ensures.unique)
