use Rattle.std.proofs.Common.{◌≡◌, ◌<◌, ℕ, [], Some, length, take}
use Rattle.std.specs.Prelude.{slice_index_or}
use Rattle.pawk_frozen.specs.Marks.{Marks}
use Rattle.pawk_parts.specs.Parts.{Noted}
use Rattle.pawk_parts.specs.Writing.{AreAll, HasUnsaid}
use Rattle.pawk_parts.proofs.ArrayLemmas.{DoesElements}
use Rattle.pawk_parts.proofs.write.push_elements.Given as goal

abbrev pub invariant-loop-key : goal.invariant-loop-key
invariant-loop-key l = record {
  written : (n : Noted) (slot : ℕ) (all : Marks) → n.array ≡ Some slot → slot < length n.table.arrays → AreAll all l.fn.pairs (slice_index_or n.table.arrays slot []) →
      DoesElements l.fn.out.items l.out.items n n slot all l.pairs;
  unsaid : HasUnsaid l.pairs → HasUnsaid l.fn.pairs;
  kept : take (length l.fn.out.items) l.out.items ≡ l.fn.out.items;
}

abbrev pub decreases-loop-key : goal.decreases-loop-key
decreases-loop-key l = length l.pairs
