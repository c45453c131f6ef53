use Rattle.pawk_tables.proofs.HeaderLemmas.{header_same}
use Rattle.pawk_tables.proofs.SectionLemmas.{item_same}
use Rattle.pawk_tables.proofs.laws.fronts_are_single.Goals as goal

pub returns-clause-header : goal.returns-clause-header
returns-clause-header c bytes h k rest others i j = let same = header_same bytes rest others h k i j in (same.header, same.left)

pub returns-clause-section : goal.returns-clause-section
returns-clause-section c m n bytes i k rest others h j = let same = item_same m n bytes rest others i k h j in (same.item, same.left)
