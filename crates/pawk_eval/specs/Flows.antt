-- How a statement leaves.
use Rattle.pawk_value.specs.Value.{shown}
use Rattle.pawk_store.specs.Meaning.{Way, on, by_break, by_continue, by_return}
use Rattle.pawk_eval.specs.declared.flow.Flow.{Flow}
use Rattle.pawk_eval.specs.declared.flow.Flow.TheVariants as flow

abbrev pub way_of : Flow → Way
way_of flow.On = on
way_of flow.Break = by_break
way_of flow.Continue = by_continue
way_of (flow.Return v) = by_return (shown v)
