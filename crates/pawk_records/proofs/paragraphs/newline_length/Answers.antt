use Rattle.std.proofs.Common.{sym, arith, rules, length, tests}
use Rattle.std.proofs.lemmas.List.Sums.{prefix_len_is}
use Rattle.memchr.specs.Find.{is_byte}
use Rattle.pawk_records.specs.Records.{newline}
use Rattle.pawk_records.proofs.paragraphs.newline_length.Goals as goal

pub returns-then-b-ne-NEWLINE-clause-value : goal.returns-then-b-ne-NEWLINE-clause-value
returns-then-b-ne-NEWLINE-clause-value c =
    sym (prefix_len_is (is_byte newline) c.args.text.now c.loop-i.i 0 (omega arith) c.loop-i.invariant (λ _. search (rules, tests)))

pub returns-clause-value : goal.returns-clause-value
returns-clause-value c =
    sym (prefix_len_is (is_byte newline) c.args.text.now (length c.args.text.now) 0 (omega arith) (λ k h. c.loop-i.invariant k (omega arith)) (λ h. absurd (omega arith)))
