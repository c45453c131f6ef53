use Rattle.std.proofs.Common.{arith, length}
use Rattle.pawk_fields.specs.Words.{fields_left}
use Rattle.pawk_fields.proofs.FieldWalkLemmas.{all_begun, count_on, one_at_most}
use Rattle.pawk_fields.proofs.words.count_later.Goals as goal

pub loop-byte-preserved : goal.loop-byte-preserved
loop-byte-preserved c = record {
  few = let most = one_at_most _ c.from-count.result c.from-count.ensures in omega (arith, most, c.loop-byte.invariant.few);
  left = count_on (length (fields_left c.args.starts_after_blank c.args.rest.now)) c.args.rest.now c.loop-byte.byte-index c.loop-byte.count c.from-count.result c.loop-byte.after_blank c.is_blank_byte-is_blank.result c.loop-byte-test.true c.is_blank_byte-is_blank.ensures c.from-count.ensures c.loop-byte.invariant.left;
}

pub returns-clause-value : goal.returns-clause-value
returns-clause-value c = all_begun (length (fields_left c.args.starts_after_blank c.args.rest.now)) c.args.rest.now c.loop-byte.byte-index c.loop-byte.count c.loop-byte.after_blank c.loop-byte-test.false c.loop-byte.invariant.left
