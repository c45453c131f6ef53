use Rattle.pawk_lines.proofs.ElementLemmas.{number_before_byte}
use Rattle.pawk_lines.proofs.element.number_before.Goals as goal

pub returns-then-first-end : goal.returns-then-first-end
returns-then-first-end c = (
  c.in_ok-digits.ensures.small,
  number_before_byte c.args.bytes.now c.split_at.result.1.now c.in_ok-digits.digits.count c.in_ok-digits.digits.size c.args.end c.in_ok-digits.ensures c.split_at.ensures.back c.in-len1-up.len_at_least c.if-first-end.true,
)
