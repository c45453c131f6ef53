use Rattle.std.proofs.Common.{◌≡◌, ◌≤◌, length, take, map, replicate}
use Rattle.pawk_frozen.specs.Marks.{blank}
use Rattle.pawk_frozen.specs.MarkViews.{mark_view}
use Rattle.pawk_parts.specs.Parts.{Noted}
use Rattle.pawk_parts.specs.Writing.{Appends}
use Rattle.pawk_parts.proofs.SlotLemmas.{filled}
use Rattle.pawk_parts.proofs.write.push_scalars.Given as goal

abbrev pub invariant-loop-slot : goal.invariant-loop-slot
invariant-loop-slot l = record {
  written : (n : Noted) → n.table.scalars ≡ replicate (length l.fn.marks) blank →
      Appends l.fn.out.items l.out.items n (record n { table = record n.table { scalars = filled blank l.slot (map mark_view l.fn.marks) } });
  kept : take (length l.fn.out.items) l.out.items ≡ l.fn.out.items;
  within : l.slot ≤ length l.fn.marks;
  ends : l.slot-end ≡ length l.fn.marks;
}
