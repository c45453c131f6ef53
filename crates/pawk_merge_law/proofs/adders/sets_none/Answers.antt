use Rattle.std.proofs.Common.{ℕ, List}
use Rattle.pawk_array.specs.Keys.{text_of}
use Rattle.pawk_frozen.specs.MarkViews.{mark_view}
use Rattle.pawk_frozen.specs.Marks.{mark_found}
use Rattle.pawk_merge.proofs.ArrayLemmas.{fewer_marks}
use Rattle.pawk_merge_law.proofs.AdderLemmas.{one_more_mark}
use Rattle.pawk_merge_law.proofs.adders.sets_none.Goals as goal

pub loop-key-smaller : goal.loop-key-smaller
loop-key-smaller c =
    fewer_marks (text_of c.in-Some.key.now) (mark_view c.in-Some.mark.now) c.loop-key.pairs c.next.new.self c.in-Some.ensures.0 c.in-Some.ensures.1

pub loop-key-preserved : goal.loop-key-preserved
loop-key-preserved c = λ q h.
    c.loop-key.invariant q
    (one_more_mark (text_of c.in-Some.key.now) (mark_view c.in-Some.mark.now) c.loop-key.pairs c.next.new.self c.in-Some.ensures.0
    (c.sets_nothing.ensures c.if-not-sets_nothing.false) q h)
