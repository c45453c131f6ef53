use Rattle.pawk_records.proofs.BeginsLemmas.{begins_law_lem}
use Rattle.pawk_records.proofs.laws.begins_law.Goals as goal

pub returns : goal.returns
returns c = begins_law_lem c.args.rs.now c.args.text.now
