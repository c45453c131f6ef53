use Rattle.std.proofs.Common.{subst}
use Rattle.pawk_array.specs.Entries.{Rise}
use Rattle.pawk_array.proofs.PiecesLemmas.{rise-seen}
use Rattle.pawk_array.proofs.array.AssociativeArray.all_keys.Goals as goal

pub returns-then-is_empty-clause-rises : goal.returns-then-is_empty-clause-rises
returns-then-is_empty-clause-rises c = subst Rise c.self.view_is (rise-seen c.self.inside.pieces c.self.inside.map.entries)

pub returns-else-is_empty-clause-rises : goal.returns-else-is_empty-clause-rises
returns-else-is_empty-clause-rises c = subst Rise c.self.view_is (rise-seen c.self.inside.pieces c.self.inside.map.entries)
