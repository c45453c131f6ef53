use Rattle.pawk_fields.proofs.ReadLemmas.{read_law_lem}
use Rattle.pawk_fields.proofs.search_laws.read_law.Goals as goal

pub returns : goal.returns
returns c = read_law_lem
