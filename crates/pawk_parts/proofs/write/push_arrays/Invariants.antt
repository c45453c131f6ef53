use Rattle.std.proofs.Common.{◌≡◌, ◌≤◌, [], length, take, replicate}
use Rattle.pawk_parts.specs.Parts.{Noted}
use Rattle.pawk_parts.specs.Writing.{AppendsTable}
use Rattle.pawk_parts.proofs.SlotLemmas.{filled}
use Rattle.pawk_parts.proofs.write.push_arrays.Given as goal

abbrev pub invariant-loop-slot : goal.invariant-loop-slot
invariant-loop-slot l = record {
  written : (n : Noted) → n.table.arrays ≡ replicate (length l.fn.arrays) [] →
      AppendsTable l.fn.out.items l.out.items n (record n.table { arrays = filled [] l.slot l.fn.arrays });
  kept : take (length l.fn.out.items) l.out.items ≡ l.fn.out.items;
  within : l.slot ≤ length l.fn.arrays;
  ends : l.slot-end ≡ length l.fn.arrays;
}
