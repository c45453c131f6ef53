use Rattle.std.proofs.Common.{length, sym, arith, rules}
use Rattle.std.specs.Char.{is_ascii_digit}
use Rattle.std.proofs.lemmas.List.Sums.{prefix_len_is}
use Rattle.pawk_words.proofs.digits.many_digits.Goals as goal

pub returns-then-not-is_ascii_digit-clause-count : goal.returns-then-not-is_ascii_digit-clause-count
returns-then-not-is_ascii_digit-clause-count c =
    sym (prefix_len_is is_ascii_digit c.args.bytes.now c.loop-i.i 0 (omega arith) c.loop-i.invariant.passed (λ _. search rules))

pub returns-clause-count : goal.returns-clause-count
returns-clause-count c =
    sym (prefix_len_is is_ascii_digit c.args.bytes.now (length c.args.bytes.now) 0 (omega arith) (λ k h. c.loop-i.invariant.passed k (omega arith)) (λ h. absurd (omega arith)))
