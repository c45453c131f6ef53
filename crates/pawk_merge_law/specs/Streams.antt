-- A whole run in windows. POSIX.1-2017, awk, "Overall Program Structure".
use Rattle.std.specs.Prelude.{◌≡◌, ℕ, true, nat_le, List, [], ◌++◌, length, flat_map, None}
use Rattle.pawk_value.specs.Conversion.{text_of}
use Rattle.pawk_input.specs.Input.{File, Item, items}
use Rattle.pawk_store.specs.Globals.{Globals, calls}
use Rattle.pawk_store.specs.RecordStates.{RecordState}
use Rattle.pawk_store.specs.Slots.{rs_slot}
use Rattle.pawk_store.specs.Records.{End, through, run_part, actions}
use Rattle.pawk_store.specs.Runs.{reads_records, take_separator, after_records, run}
use Rattle.pawk_store.specs.Outputs.{finish_with_output_before}
use Rattle.pawk_merge_law.specs.Phases.{Phase}
use Rattle.pawk_merge_law.specs.Pieces.{Progress, IsOpen}
use Rattle.pawk_merge_law.specs.Windows.{Window, records_in, without_output, RunsInWindows}

-- how BEGIN ends, from these globals and this record state
abbrev pub end_of_begin : Phase → Globals → RecordState → End Globals
end_of_begin p s state = run_part (actions calls p.eres p.code.functions p.code.begins) p.budget s state []

-- RS, as it is then
abbrev pub separator_after : End Globals → List ℕ
separator_after e = text_of (calls.look rs_slot e.world)

-- how far a run is before its first window: RS is taken, and what BEGIN wrote is written
abbrev pub before_windows : End Globals → Progress Globals
before_windows e = without_output (record { skip = None; end = take_separator (separator_after e) e })

-- A program whose records are run in windows after BEGIN: the whole run ends as END does after the last window, and its output
-- is that of BEGIN, of the windows in order, and of END. Where the run ended in a window, what follows in the files is not looked
-- at.
abbrev pub StreamedLaw : Type 0
StreamedLaw =
    (p : Phase) (files : List File) (s : Globals) (state : RecordState) →
    let b = end_of_begin p s state in
    let rs = separator_after b in
    b.left ≡ through → reads_records p.code ≡ true → nat_le (length rs) 1 ≡ true →
    (windows : List Window) (out : List ℕ) (f : Progress Globals) (rest : List Item) →
    flat_map records_in windows ++ rest ≡ items rs files → (IsOpen f.end.left → rest ≡ []) →
    RunsInWindows p (before_windows b) windows out f →
    run calls p.eres p.code p.budget files s state
    ≡ finish_with_output_before (b.output ++ out) (after_records calls p.eres p.code p.budget f.end.left f.end)
