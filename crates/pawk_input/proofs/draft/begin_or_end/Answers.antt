use Rattle.std.proofs.Common.{arith}
use Rattle.pawk_input.proofs.draft.begin_or_end.Goals as goal

pub returns-in-Some : goal.returns-in-Some
returns-in-Some c = record {
  within = omega (arith, c.in-Some.ensures.0.high);
  none = c.in-Some.ensures.0.before;
  begins = λ lt. (omega (arith, c.in-Some.ensures.0.low), c.in-Some.ensures.1);
}

pub returns-in-None : goal.returns-in-None
returns-in-None c = record {
  within = omega (arith, c.size.ensures);
  none = λ k low lt. c.in-None.ensures k low (omega (arith, c.size.ensures));
  begins = λ lt. absurd (omega (arith, c.size.ensures));
}

pub next_begin-requires-clause-mended : goal.next_begin-requires-clause-mended
next_begin-requires-clause-mended c = c.requires.mended
