use Rattle.std.proofs.Common.{◌≡◌, map, replicate}
use Rattle.pawk_frozen.specs.Marks.{blank}
use Rattle.pawk_frozen.specs.MarkViews.{mark_view}
use Rattle.pawk_frozen.proofs.table.blank_marks.Given as goal

abbrev pub invariant-loop : goal.invariant-loop
invariant-loop l = map mark_view l.marks.items ≡ replicate l.counter blank
