use Rattle.std.proofs.Common.{◌≡◌, ◌+◌, ◌≤◌, drop, length}
use Rattle.pawk_fields.specs.Words.{fields_left}
use Rattle.pawk_fields.proofs.words.count_later.Given as goal

abbrev pub invariant-loop-byte : goal.invariant-loop-byte
invariant-loop-byte l = record {
  few : l.count ≤ l.byte-index;
  left : l.count + length (fields_left l.after_blank (drop l.byte-index l.rest)) ≡ length (fields_left l.fn.starts_after_blank l.rest);
}
