use Rattle.pawk_store.proofs.Framing.{records_append, after_records_append}
use Rattle.pawk_store.proofs.law.output_is_appended.Goals as goal

pub returns-clause-records : goal.returns-clause-records
returns-clause-records g c = λ i eres code budget skip items out e. records_append out (g.P.Policy.calls i) eres code budget skip items e

pub returns-clause-behind : goal.returns-clause-behind
returns-clause-behind g c = λ i eres code budget left out e. after_records_append out (g.P.Policy.calls i) eres code budget left e
