-- Which way a run goes.
use Rattle.std.specs.Prelude.{◌≡◌, ℕ, ◌<◌, ◌≤◌, ◌⊎◌, List, [], length, true}
use Rattle.pawk_value.specs.Conversion.{text_of}
use Rattle.pawk_code.specs.Programs.{Code}
use Rattle.pawk_input.specs.Input.{File, items}
use Rattle.pawk_store.specs.Globals.{Globals, calls}
use Rattle.pawk_store.specs.Openings.{opened}
use Rattle.pawk_store.specs.RecordStates.{opening}
use Rattle.pawk_store.specs.Slots.{rs_slot}
use Rattle.pawk_admit.specs.Admission.{IsAdmissible, IsFirst, AreRoles}
use Rattle.pawk_admit.specs.Reaches.{Occurs}
use Rattle.pawk_admit.specs.Roles.{Roles}
use Rattle.pawk_store.specs.Records.{End, through, run_part, actions}
use Rattle.pawk_store.specs.Runs.{Finish, reads_records, take_separator, run}
use Rattle.pawk_merge_law.specs.Phases.{Phase, FaultsOrCreates}
use Rattle.pawk_routes.specs.declared.report.Route.{Route}
use Rattle.pawk_routes.specs.declared.report.Route.TheVariants.{NoMain, NotAdmitted, Redo, Parallel}

module _ (code : Code) (budget : ℕ) where
  -- the whole run, with these assignments made before
  abbrev pub whole_run : List (List ℕ × List ℕ) → List File → Finish Globals
  whole_run assignments files =
      run calls code.expressions code budget files (opened code.scalars (length code.arrays) assignments) (opening (length code.rules))

  -- how BEGIN ends
  abbrev pub begin_end : List (List ℕ × List ℕ) → End Globals
  begin_end assignments =
      run_part (actions calls code.expressions code.functions code.begins) budget
      (opened code.scalars (length code.arrays) assignments) (opening (length code.rules)) []

-- RS as BEGIN left it
abbrev pub separator_of : End Globals → List ℕ
separator_of e = text_of (calls.look rs_slot e.world)

-- records are read after BEGIN
abbrev pub HasRecords : Code → End Globals → Type 0
HasRecords code e = (e.left ≡ through) × (reads_records code ≡ true)

-- the records may be run in chunks: they are read, by an RS of at most one byte, of a program that may run so
abbrev pub IsPlanned : Code → End Globals → Type 0
IsPlanned code e = HasRecords code e × IsAdmissible code × (length (separator_of e) ≤ 1)

-- the records after BEGIN
abbrev pub phase_after : Code → Roles → ℕ → End Globals → Phase
phase_after code roles budget e = record {
  code = code;
  roles = roles;
  eres = code.expressions;
  budget = budget;
  globals = e.world;
  state = (take_separator (separator_of e) e).state;
  output = e.output;
}

-- The records in order end in a fault, or create an element of an array that is no reader array. An RS of more than one byte
-- is a fault.
abbrev pub IsRedone : Code → ℕ → List File → End Globals → Type 0
IsRedone code budget files e =
    (1 < length (separator_of e))
    ⊎ ((roles : Roles) × AreRoles (Occurs code) roles × FaultsOrCreates (phase_after code roles budget e) (items (separator_of e) files))

-- the route of a run whose BEGIN ends so
abbrev pub IsRoute : Code → ℕ → List File → End Globals → Route → Type 0
IsRoute code budget files e NoMain = ¬ HasRecords code e
IsRoute code budget files e (NotAdmitted reason) = HasRecords code e × IsFirst (Occurs code) reason
IsRoute code budget files e Redo = HasRecords code e × IsAdmissible code × IsRedone code budget files e
IsRoute code budget files e Parallel = HasRecords code e × IsAdmissible code × ¬ IsRedone code budget files e
