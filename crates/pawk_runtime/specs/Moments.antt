-- The moment that a world and a run show.
use Rattle.std.specs.Prelude.{List, map}
use Rattle.pawk_value.specs.Value.{shown, Uninit}
use Rattle.pawk_store.specs.StateViews.{state_of}
use Rattle.pawk_world.specs.Worlds as world
use Rattle.pawk_store.specs.Parts.{Hold, value, global_array, local_array, Moment}
use Rattle.pawk_store.specs.Places.{Aim}
use Rattle.pawk_store.specs.Places as aim
use Rattle.pawk_runtime.specs.declared.run.Run.{Run}
use Rattle.pawk_runtime.specs.declared.run.Parameter.{Parameter}
use Rattle.pawk_runtime.specs.declared.run.Parameter.TheVariants as parameter
use Rattle.pawk_runtime.specs.declared.target.Target.{Target}
use Rattle.pawk_runtime.specs.declared.target.Target.TheVariants as target
use Rattle.pawk_runtime.specs.declared.target.ArrayReference.{ArrayReference}
use Rattle.pawk_runtime.specs.declared.target.ArrayReference.TheVariants as table

-- what a parameter holds
abbrev pub hold_of : Parameter → Hold
hold_of (parameter.Value v) = value (shown v)
hold_of (parameter.Global n) = global_array n
hold_of (parameter.Local n) = local_array n

abbrev pub holds_of : List Parameter → List Hold
holds_of = map hold_of

abbrev pub moment : {S : Type 0} → S → Run → Moment S
moment world run = record {
  world = world;
  state = state_of run.state;
  frame = holds_of run.frame.items;
  arrays = run.arrays.items;
  output = run.output.items;
  left = run.left;
}

abbrev pub aim_view : Target → Aim
aim_view (target.Parameter i) = aim.parameter i
aim_view (target.Scalar n) = aim.cell (world.scalar n)
aim_view (target.Element n key) = aim.cell (world.element n key.items)
aim_view (target.LocalElement n key) = aim.local_element n key.items
aim_view (target.Field n) = aim.field n
aim_view target.Nowhere = aim.nowhere

-- the array that a table stands for
abbrev pub table_view : ArrayReference → Hold
table_view table.None = value Uninit
table_view (table.Global n) = global_array n
table_view (table.Local n) = local_array n
