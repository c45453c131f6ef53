use Rattle.std.proofs.Common.{◌≤◌, inl, inr, arith, rules}
use Rattle.pawk_value.specs.Format.{digit_byte}
use Rattle.pawk_value.proofs.FormatLemmas as lemmas
use Rattle.pawk_value.proofs.radix.write_radix.Goals as goal

pub loop-left-preserved : goal.loop-left-preserved
loop-left-preserved c =
    let inv = c.loop-left.invariant in
    let some : 3 ≤ c.loop-left.start = lemmas.room_left c.loop-left.left c.loop-left.start c.loop-left-test.true inv.short inv.room.0 in
    let base : 2 ≤ c.args.base = elim c.requires.base [ inl h ↦ omega arith | inr h ↦ omega arith ] in
    record {
      room = (omega arith, omega arith);
      short = lemmas.fewer_left c.loop-left.left c.args.base c.loop-left.start c.requires.base inv.short some;
      whole = search rules;
      written = rw c.digit_byte.ensures (lemmas.digit_written (digit_byte c.args.upper) c.args.base c.loop-left.left c.loop-left.start c.loop-left.buffer _ base c.loop-left-test.true (omega arith) (omega arith) inv.written);
    }
