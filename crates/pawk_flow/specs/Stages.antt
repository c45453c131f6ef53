-- Steps of the run of a piece, as the code has them.
use Rattle.std.specs.Prelude.{◌≡◌, ℕ, ◌<◌, Bool, true, false, List, [], length, drop, map, flat_map, None, MatchOption}
use Rattle.pawk_code.specs.Programs.{Code}
use Rattle.pawk_code.specs.ProgramViews.{code_view}
use Rattle.pawk_input.specs.Input.{Item, files_of}
use Rattle.pawk_input.specs.Plan.{chunk_items}
use Rattle.pawk_admit.specs.Roles.{roles_view}
use Rattle.pawk_admit.specs.declared.role.Roles.{Roles as CodeRoles}
use Rattle.pawk_store.specs.Globals.{Globals, calls}
use Rattle.pawk_store.specs.RecordStates.{RecordState}
use Rattle.pawk_store.specs.StateViews.{state_of}
use Rattle.pawk_merge.specs.Merges.{before_chunks}
use Rattle.pawk_store.specs.Records.{through, End}
use Rattle.pawk_store.specs.Runs.{records_from}
use Rattle.pawk_store.specs.Outputs.{in_a_row}
use Rattle.pawk_store.specs.LeftViews.{left_view}
use Rattle.pawk_merge.specs.MergeViews.{chunk_of, end_view}
use Rattle.pawk_merge.specs.Extents.{merge_far}
use Rattle.pawk_merge.specs.ExtentViews.{extent_view}
use Rattle.pawk_merge.specs.declared.extent.Extent.{Extent}
use Rattle.pawk_merge.specs.declared.chunk_result.ChunkResult.{ChunkResult}
use Rattle.pawk_merge_law.specs.Chunks.{Opening, chunk_end, AreResults}
use Rattle.pawk_chunks.specs.declared.task.Chunked.{Chunked}
use Rattle.pawk_pieces.specs.Job.{Job}
use Rattle.pawk_routes.specs.declared.prologue.Prologue.{Prologue}
use Rattle.pawk_merge_law.specs.Phases.{Phase, MayRun, FaultsOrCreates}
use Rattle.pawk_merge_law.specs.Gathered.{phase_of}
use Rattle.pawk_merge_law.specs.Windows.{phase_at}
use Rattle.pawk_pieces.specs.declared.piece.PieceEnd.{PieceEnd}
use Rattle.pawk_flow.specs.declared.window.Remnant.{Remnant}

-- what the chunks begin with
abbrev pub opening_at : Job → CodeRoles → Prologue → Opening
opening_at job roles b = record {
  code = code_view job.code.now;
  budget = job.budget;
  globals = b.globals;
  roles = roles_view roles;
  state = state_of b.run.state;
}

-- the chunks, as a phase of their own
abbrev pub phase_in : Job → CodeRoles → Prologue → Phase
phase_in job roles b = phase_of (opening_at job roles b) []

-- a run that goes on from these: nothing is written yet, and what came before was left through
abbrev pub flow_end : {S : Type 0} → S → RecordState → End S
flow_end s state = record { world = s; state = state; output = []; left = through }

-- chunks of a source were run from here, and what they left was merged as far as it can be, beside these globals
pub record IsFarFrom (job : Job) (roles : CodeRoles) (source : Chunked) (b : Prologue) (globals : Globals) (x : Extent) : Type 0 where
  pub results : List ChunkResult
  pub ran : AreResults (chunk_end (opening_at job roles b) source.rs.now (files_of source.input.now)) source.plan.now results
  pub is : extent_view globals x ≡ merge_far (map chunk_of results) (before_chunks b.globals (state_of b.run.state))

-- where chunks were left out there are some, and those before them were left through
abbrev pub LeavesOut : Chunked → Extent → Type 0
LeavesOut source x =
    MatchOption x.stop (Unit {0})
    (λ stop. (length x.merged.outputs.items < length source.plan.now) × (left_view x.merged.left ≡ through))

-- what the records of a piece leave, beside the globals
abbrev pub remnant_end : Globals → Remnant → End Globals
remnant_end globals r = record {
  world = globals;
  state = state_of r.state;
  output = in_a_row r.outputs.items;
  left = left_view r.left;
}

-- where all chunks were merged that is the end; else the records of the others are run from there
abbrev pub RunsOn : Code → ℕ → Chunked → Globals → Extent → Globals → Remnant → Type 0
RunsOn code budget source before x globals r =
    MatchOption x.stop ((end_view before x.merged ≡ remnant_end globals r) × (r.is_stopped ≡ false))
    (λ stop.
    (records_from calls code.expressions code budget None (end_view before x.merged)
    (flat_map (chunk_items source.rs.now (files_of source.input.now)) (drop (length x.merged.outputs.items) source.plan.now))
    ≡ remnant_end globals r)
    × (r.is_stopped ≡ true))

-- How far records went in chunks that ended so: all were merged, and more may be run in chunks after them; or not all were, and
-- then they end in a fault, or create an element of an array that is no reader array.
abbrev pub WentFar : Phase → List Item → End Globals → Bool → Type 0
WentFar p items e false = (¬ FaultsOrCreates p items) × MayRun (phase_at p e)
WentFar p items e true = FaultsOrCreates p items

-- the same but for the count of records, and the bytes
pub record EndsAs (x y : PieceEnd) : Type 0 where
  pub outputs : y.outputs.items ≡ x.outputs.items
  pub left : y.left ≡ x.left
  pub stopped : y.is_stopped ≡ x.is_stopped
