-- A run in windows: the records after BEGIN in consecutive pieces, each run in chunks that are merged, or one record after the
-- other; the output of each is written before the next one is run. POSIX.1-2017, awk, "Overall Program Structure".
use Rattle.std.specs.Prelude.{◌≡◌, ◌⊎◌, ◌↔◌, ℕ, List, [], ◌∷◌, ◌++◌, flat_map, All, None, Ok}
use Rattle.pawk_input.specs.Input.{Item}
use Rattle.pawk_store.specs.Globals.{Globals, calls}
use Rattle.pawk_store.specs.Records.{Left, through, next_file, exit, fault, clash, End}
use Rattle.pawk_store.specs.Outputs.{with_output_before}
use Rattle.pawk_store.specs.Runs.{records_from}
use Rattle.pawk_merge.specs.Merges.{Chunk, merge}
use Rattle.pawk_merge_law.specs.Phases.{Phase, MayRun, opening, in_order, FaultsOrCreates}
use Rattle.pawk_merge_law.specs.ChunkedRuns.{Ran, HasRecord, all_of}
use Rattle.pawk_merge_law.specs.Pieces.{Progress, IsOpen, progress_after, resume}

-- the records that follow, as a phase of their own: it begins with the globals, the record state and the output that came before
abbrev pub phase_at : Phase → End Globals → Phase
phase_at p e = record p { globals = e.world; state = e.state; output = e.output }

-- a window: chunks with what each of them leaves, or records that are run one after the other
pub data Window : Type 0 where
  in_chunks : List (List Item) → List Chunk → Window
  in_turn : List Item → Window

abbrev pub records_in : Window → List Item
records_in (in_chunks chunks results) = all_of chunks
records_in (in_turn items) = items

-- A window in chunks, from a to b: what came before was left through, and no file is being skipped; its chunks, each of which
-- has a record, are run over the globals as they are at its begin, from the record state there; the merge gives b.
pub record IsMerged (p : Phase) (a : Progress Globals) (chunks : List (List Item)) (results : List Chunk)
    (b : Progress Globals) : Type 0 where
  pub left : a.end.left ≡ through
  pub skip : a.skip ≡ None
  pub skip_after : b.skip ≡ None
  pub may_run : MayRun (phase_at p a.end)
  pub each : All HasRecord chunks
  pub runs : Ran (phase_at p a.end) a.end.state.nr chunks results
  pub merges : merge results (opening (phase_at p a.end)) ≡ Ok b.end

-- a window that is run from here gets there
abbrev pub RunsTo : Phase → Progress Globals → Window → Progress Globals → Type 0
RunsTo p a (in_chunks chunks results) b = IsMerged p a chunks results b
RunsTo p a (in_turn items) b = progress_after calls p.eres p.code p.budget a.skip a.end items ≡ b

-- the same with no output that is still to be written
abbrev pub without_output : Progress Globals → Progress Globals
without_output b = record b { end = record b.end { output = [] } }

-- the first, where records are read after a part that is left so; else the second
abbrev pub WhereOpen : Left → Type 0 → Type 0 → Type 0
WhereOpen through More Stop = More
WhereOpen next_file More Stop = More
WhereOpen (exit n) More Stop = Stop
WhereOpen (fault f) More Stop = Stop
WhereOpen clash More Stop = Stop

-- Windows that are run one after the other, each from where the one before it ended, up to one in which the run ends: all that
-- they write, and how far the run is then. The output of each is written and forgotten before the next is run.
abbrev pub RunsInWindows : Phase → Progress Globals → List Window → List ℕ → Progress Globals → Type 0
RunsInWindows p a [] out b = (out ≡ []) × (a ≡ b)
RunsInWindows p a (w ∷ ws) out b =
    (m : Progress Globals) × RunsTo p a w m
    × WhereOpen m.end.left
    ((rest : List ℕ) × (out ≡ m.end.output ++ rest) × RunsInWindows p (without_output m) ws rest b)
    ((out ≡ m.end.output) × (without_output m ≡ b))

-- Whatever the windows, the records in order end as they do: what was written stands in front, and records that follow are run
-- from there. Where the run ended in a window, they are not looked at, whatever they are.
abbrev pub WindowsLaw : Type 0
WindowsLaw =
    (p : Phase) (a : Progress Globals) (windows : List Window) (out : List ℕ) (b : Progress Globals) →
    IsOpen a.end.left → RunsInWindows p a windows out b → (more : List Item) →
    records_from calls p.eres p.code p.budget a.skip a.end (flat_map records_in windows ++ more)
    ≡ with_output_before out (resume calls p.eres p.code p.budget b more)

-- One window: the records in order get to where it does, whatever follows.
abbrev pub StepLaw : Type 0
StepLaw =
    (p : Phase) (a : Progress Globals) (w : Window) (b : Progress Globals) →
    IsOpen a.end.left → RunsTo p a w b → (more : List Item) →
    records_from calls p.eres p.code p.budget a.skip a.end (records_in w ++ more) ≡ resume calls p.eres p.code p.budget b more

-- One window more: it is run from where the windows before it ended.
abbrev pub OneMoreLaw : Type 0
OneMoreLaw =
    (p : Phase) (a : Progress Globals) (windows : List Window) (out : List ℕ) (b : Progress Globals) →
    (w : Window) (m : Progress Globals) →
    RunsInWindows p a windows out b → IsOpen b.end.left → RunsTo p b w m →
    RunsInWindows p a (windows ++ w ∷ []) (out ++ m.end.output) (without_output m)

-- after records that neither end in a fault nor create an element of an array that is no reader array, chunks may be run over
-- the globals as they are then
abbrev pub MayRunOnLaw : Type 0
MayRunOnLaw =
    (p : Phase) → MayRun p → (items : List Item) → ¬ FaultsOrCreates p items → MayRun (phase_at p (in_order p items))

-- records in two parts end in a fault, or create such an element, exactly where one of the parts does
abbrev pub PartingLaw : Type 0
PartingLaw =
    (p : Phase) (items more : List Item) → (in_order p items).left ≡ through →
    FaultsOrCreates p (items ++ more) ↔ (FaultsOrCreates p items ⊎ FaultsOrCreates (phase_at p (in_order p items)) more)
