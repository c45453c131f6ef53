-- Extents of the code.
use Rattle.std.specs.Prelude.{◌≡◌, Bool, true, false, List, ◌∷◌, length, None}
use Rattle.std.specs.Option.{option_map}
use Rattle.pawk_store.specs.Globals.{Globals}
use Rattle.pawk_merge.specs.Merges.{Chunk, Stop, at_cell, at_fault, at_clash}
use Rattle.pawk_merge.specs.MergeViews.{end_view}
use Rattle.pawk_merge.specs.Extents.{Extent, merge_more}
use Rattle.pawk_merge.specs.declared.extent.Extent.{Extent as Code}
use Rattle.pawk_merge.specs.declared.stop.MergeStop.{MergeStop}
use Rattle.pawk_merge.specs.declared.stop.MergeStop.TheVariants as stop

abbrev pub stop_view : MergeStop → Stop
stop_view stop.Cell = at_cell
stop_view stop.Fault = at_fault
stop_view stop.Clash = at_clash

-- an extent, with globals that are beside it: one output for each chunk that is merged
abbrev pub extent_view : Globals → Code → Extent
extent_view globals x = record {
  count = length x.merged.outputs.items;
  end = end_view globals x.merged;
  stop = option_map stop_view x.stop;
}

-- one chunk more, whatever follows it: the merge goes on, or it ends here
abbrev pub Advances : Extent → Chunk → Extent → Bool → Type 0
Advances old c new true = (new.stop ≡ None) × ((cs : List Chunk) → merge_more old (c ∷ cs) ≡ merge_more new cs)
Advances old c new false = (cs : List Chunk) → merge_more old (c ∷ cs) ≡ new
