use Rattle.std.proofs.Common.{arith}
use Rattle.pawk_records.proofs.PairLemmas.{end_is, none_before}
use Rattle.pawk_records.proofs.paragraphs.paragraph_length.Goals as goal

pub returns-then-pairs-ne0-clause-value : goal.returns-then-pairs-ne0-clause-value
returns-then-pairs-ne0-clause-value c =
    let before = c.loop-from.invariant in
    end_is c.args.text.now c.loop-from.from c.block_ends-ends.result before.within c.loop-from-test.true before.none c.block_ends-ends.ensures c.if-pairs-ne0.true

pub loop-from-preserved : goal.loop-from-preserved
loop-from-preserved c =
    let before = c.loop-from.invariant in
    record {
      within = omega (arith, before.within, c.loop-from-test.true);
      none = none_before c.args.text.now c.loop-from.from c.block_ends-ends.result before.within c.loop-from-test.true before.none c.block_ends-ends.ensures c.if-pairs-ne0.false;
    }
