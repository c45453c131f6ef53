use Rattle.pawk_ere_syntax.specs.Spelled.{expression}
use Rattle.pawk_ere.proofs.loan.Loan.read.Goals as goal

pub returns-clause-matcher : goal.returns-clause-matcher
returns-clause-matcher c = record {
  pattern = expression c.in_ok-ere.ere;
  spelled = c.in_ok-ere.ensures.found;
  meaning = c.in_ok-matcher.ensures;
}
