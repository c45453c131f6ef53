use Rattle.std.proofs.Common.{sym, arith, rules, length, tests}
use Rattle.std.proofs.lemmas.List.Sums.{prefix_len_is}
use Rattle.pawk_fields.specs.Fields.{is_not_blank}
use Rattle.pawk_fields.proofs.blanks.word_length.Goals as goal

pub returns-then-is_blank_byte-clause-value : goal.returns-then-is_blank_byte-clause-value
returns-then-is_blank_byte-clause-value c =
    sym (prefix_len_is is_not_blank c.args.text.now c.loop-i.i 0 (omega arith) c.loop-i.invariant (λ _. search (rules, tests)))

pub returns-clause-value : goal.returns-clause-value
returns-clause-value c =
    sym (prefix_len_is is_not_blank c.args.text.now (length c.args.text.now) 0 (omega arith) (λ k h. c.loop-i.invariant k (omega arith)) (λ h. absurd (omega arith)))
