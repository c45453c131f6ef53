use Rattle.std.proofs.Common.{◌≡◌, sym, arith, rules, length}
use Rattle.std.proofs.lemmas.List.Sums.{prefix_len_is}
use Rattle.pawk_value.specs.Bytes.{is_digit}
use Rattle.pawk_value.proofs.numeral.leading_digits.Goals as goal

pub returns-then-not-is_digit_byte-clause-count : goal.returns-then-not-is_digit_byte-clause-count
returns-then-not-is_digit_byte-clause-count c =
    sym (prefix_len_is is_digit c.args.text.now c.loop-i.i 0 (omega arith) c.loop-i.invariant.0 (λ _. search rules))

pub returns-then-not-is_digit_byte-clause-value : goal.returns-then-not-is_digit_byte-clause-value
returns-then-not-is_digit_byte-clause-value c =
    rw (sym (returns-then-not-is_digit_byte-clause-count c)) c.loop-i.invariant.1

pub returns-clause-count : goal.returns-clause-count
returns-clause-count c =
    sym (prefix_len_is is_digit c.args.text.now (length c.args.text.now) 0 (omega arith) (λ k h. c.loop-i.invariant.0 k (omega arith)) (λ h. absurd (omega arith)))

pub returns-clause-value : goal.returns-clause-value
returns-clause-value c =
    rw (sym (returns-clause-count c)) (let e : c.loop-i.i ≡ length c.args.text.now = omega arith in rw (sym e) c.loop-i.invariant.1)
