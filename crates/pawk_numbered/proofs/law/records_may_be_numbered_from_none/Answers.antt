use Rattle.pawk_numbered.proofs.InRecords.{from_none}
use Rattle.pawk_numbered.proofs.law.records_may_be_numbered_from_none.Goals as goal

pub returns : goal.returns
returns g c = λ i eres code free budget number skip items e.
    from_none number (g.P.Policy.calls i) eres code budget free skip items e
