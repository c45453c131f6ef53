use Rattle.std.proofs.Common.{subst}
use Rattle.pawk_array.specs.Entries.{Rise}
use Rattle.pawk_array.proofs.PiecesLemmas.{rise-seen}
use Rattle.pawk_array.proofs.array.AssociativeArray.order_law.Goals as goal

pub returns : goal.returns
returns c = subst Rise c.self.view_is (rise-seen c.self.inside.pieces c.self.inside.map.entries)
