-- Merges of the code.
use Rattle.std.specs.Prelude.{◌≡◌, Bool, true, false, Option, Some, None, Result, Ok, Err, if◌then◌else◌}
use Rattle.pawk_store.specs.Globals.{Globals}
use Rattle.pawk_store.specs.StateViews.{state_of}
use Rattle.pawk_store.specs.Outputs.{in_a_row}
use Rattle.pawk_store.specs.Records.{Left, End}
use Rattle.pawk_store.specs.LeftViews.{left_view}
use Rattle.pawk_merge.specs.Merges.{Chunk, Stop, at_cell, at_fault, at_clash, after_leaving}
use Rattle.pawk_merge.specs.Tables.{all_take}
use Rattle.pawk_frozen.specs.Marks.{Table}
use Rattle.pawk_merge.specs.declared.chunk_result.ChunkResult.{ChunkResult}
use Rattle.pawk_merge.specs.declared.merging.Merged.{Merged}
use Rattle.pawk_merge.specs.declared.stop.JoinStop.{JoinStop}
use Rattle.pawk_merge.specs.declared.stop.JoinStop.TheVariants as stop

-- the table, the record state, the output and the way of leaving
abbrev pub chunk_of : ChunkResult → Chunk
chunk_of r = record { table = r.table; state = state_of r.state; output = r.output.items; left = left_view r.left }

-- an end, with globals that are beside it
abbrev pub end_view : Globals → Merged → End Globals
end_view globals m = record {
  world = globals;
  state = state_of m.state;
  output = in_a_row m.outputs.items;
  left = left_view m.left;
}

-- the stop, or nothing where memory was refused
abbrev pub stop_of : JoinStop → Option Stop
stop_of stop.Cell = Some at_cell
stop_of stop.Fault = Some at_fault
stop_of stop.Clash = Some at_clash
stop_of stop.Memory = None

-- the end and the globals, or the stop, are those of this merge; nothing is said where memory was refused
abbrev pub Merges : Result (End Globals) Stop → Globals → Result Merged JoinStop → Type 0
Merges meant globals (Ok m) = meant ≡ Ok (end_view globals m)
Merges meant globals (Err e) = (s : Stop) → stop_of e ≡ Some s → meant ≡ Err s

-- how a merge goes on after a chunk that was left so: yes, no, or a stop
abbrev pub Continues : Left → Result Bool JoinStop → Type 0
Continues left (Ok true) = (go : End Globals → Result (End Globals) Stop) (e : End Globals) → after_leaving left go e ≡ go e
Continues left (Ok false) = (go : End Globals → Result (End Globals) Stop) (e : End Globals) → after_leaving left go e ≡ Ok e
Continues left (Err s) =
    (t : Stop) → stop_of s ≡ Some t → (go : End Globals → Result (End Globals) Stop) (e : End Globals) → after_leaving left go e ≡ Err t

-- the same of a chunk with this table, over these globals
abbrev pub Goes : Table → Left → Globals → Result Bool JoinStop → Type 0
Goes table left g (Ok b) = (all_take table g ≡ true) × Continues left (Ok b)
Goes table left g (Err s) = (t : Stop) → stop_of s ≡ Some t → (go : End Globals → Result (End Globals) Stop) (e : End Globals) →
    (if all_take table g then after_leaving left go e else Err at_cell) ≡ Err t
