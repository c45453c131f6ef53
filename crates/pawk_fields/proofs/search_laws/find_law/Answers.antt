use Rattle.pawk_fields.proofs.SearchLemmas.{find_law_lem}
use Rattle.pawk_fields.proofs.search_laws.find_law.Goals as goal

pub returns : goal.returns
returns c = find_law_lem
