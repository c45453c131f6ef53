use Rattle.std.proofs.Common.{◌≡◌, ◌≤◌, ◌++◌, ◌∷◌, [], length, drop}
use Rattle.pawk_fields.specs.Blocks.{blank_bits}
use Rattle.pawk_fields.proofs.blocks.short_blanks.Given as goal

abbrev pub invariant-loop-place : goal.invariant-loop-place
invariant-loop-place l = record {
  within : l.place ≤ length l.text;
  right : l.bits ≡ blank_bits (drop l.place l.text ++ 32 ∷ []);
}

abbrev pub decreases-loop-place : goal.decreases-loop-place
decreases-loop-place l = l.place
