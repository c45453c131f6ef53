-- Demands of the code.
use Rattle.std.specs.Prelude.{List, map}
use Rattle.std.specs.List.{All}
use Rattle.pawk_syntax_check.specs.declared.demand.Demand.{Demand as Code}
use Rattle.pawk_syntax_check.specs.declared.demand.Demand.TheVariants as code
use Rattle.pawk_syntax_check.specs.declared.demands.Demands.{Demands}
use Rattle.pawk_syntax_check.specs.Tables.{key_view, Names, IsTable}
use Rattle.pawk_syntax_check.specs.declared.variables.Variables.{Variables}
use Rattle.pawk_syntax_check.specs.Demands.{Demand, array_at, scalar_at, alike}

abbrev pub demand_view : Code → Demand
demand_view (code.Array v) = array_at (key_view v.key)
demand_view (code.Scalar v) = scalar_at (key_view v.key)
demand_view (code.Alike v w) = alike (key_view v.key) (key_view w.key)

-- the numbers in a demand are those of its names
abbrev pub Speaks : Variables → Code → Type 0
Speaks t (code.Array v) = Names t v
Speaks t (code.Scalar v) = Names t v
Speaks t (code.Alike v w) = Names t v × Names t w

abbrev pub demands_in : Demands → List Demand
demands_in d = map demand_view d.list.items

pub record AreNumbered (d : Demands) : Type 0 where
  pub table : IsTable d.variables
  pub numbered : All (Speaks d.variables) d.list.items
