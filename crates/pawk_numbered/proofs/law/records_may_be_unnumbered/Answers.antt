use Rattle.pawk_numbered.proofs.InRecords.{records_later}
use Rattle.pawk_numbered.proofs.law.records_may_be_unnumbered.Goals as goal

pub returns : goal.returns
returns g c = λ i eres code free budget before skip items e.
    records_later before (g.P.Policy.calls i) eres code budget free skip items e
