-- Kinds of the code.
use Rattle.std.specs.Prelude.{◌≡◌, ℕ, Bool, true, List, length}
use Rattle.std.specs.List.{list_all}
use Rattle.pawk_syntax_tree.specs.Item.{Part}
use Rattle.pawk_syntax_check.specs.declared.kinds.Kinds.{Kinds as Code}
use Rattle.pawk_syntax_check.specs.declared.kinds.MarkedDemands.{MarkedDemands}
use Rattle.pawk_syntax_check.specs.Tables.{names}
use Rattle.pawk_syntax_check.specs.Demands.{Kinds, demands}
use Rattle.pawk_syntax_check.specs.DemandViews.{demands_in, AreNumbered}
use Rattle.pawk_syntax_check.specs.Marks.{is_settled, meets_numbers, IsForced}
use Rattle.pawk_syntax_check.specs.Found.{kinds_of}

-- which names are arrays
unfoldable pub kinds_in : Code → Kinds
kinds_in k = kinds_of k.variables k.marks.items

-- the marks are on what the demands of the program show to be arrays, and on nothing else
pub record AreFoundFor (ps : List Part) (k : MarkedDemands) : Type 0 where
  pub asked : demands_in k.demands ≡ demands ps
  pub numbered : AreNumbered k.demands
  pub marks_length : length k.marks.items ≡ length (names k.demands.variables)
  pub closed : list_all (is_settled k.marks.items) k.demands.list.items ≡ true
  pub forced : (n : ℕ → Bool) → list_all (meets_numbers n) k.demands.list.items ≡ true → IsForced n k.marks.items
