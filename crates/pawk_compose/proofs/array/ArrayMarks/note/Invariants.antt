use Rattle.std.proofs.Common.{length}
use Rattle.pawk_keyed_map.specs.Pairs.{OccurOnce}
use Rattle.pawk_frozen.specs.MarkViews.{mark_view, marks_of}
use Rattle.pawk_compose.proofs.NotingLemmas.{AreWriting}
use Rattle.pawk_compose.proofs.array.ArrayMarks.note.Given as goal

abbrev pub invariant-loop-key : goal.invariant-loop-key
invariant-loop-key l = record {
  once : OccurOnce mark_view l.pairs;
  writing : AreWriting l.fn.table l.table l.slot l.fn.self (marks_of l.pairs);
}

abbrev pub decreases-loop-key : goal.decreases-loop-key
decreases-loop-key l = length l.pairs
