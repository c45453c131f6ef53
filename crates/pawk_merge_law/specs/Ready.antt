-- Globals and roles with which the records of a program may be run in chunks.
use Rattle.std.specs.Prelude.{ℕ, List}
use Rattle.pawk_code.specs.Programs.{Code}
use Rattle.pawk_store.specs.Globals.{Globals}
use Rattle.pawk_store.specs.RecordStates.{RecordState}
use Rattle.pawk_admit.specs.Admission.{IsAdmissible, AreRoles}
use Rattle.pawk_admit.specs.Reaches.{Occurs}
use Rattle.pawk_admit.specs.Roles.{Roles}
use Rattle.pawk_merge_law.specs.Phases.{MayRun}

-- of an admissible program whose names have these roles, whatever else BEGIN left beside these globals
abbrev pub MayRunFrom : Roles → Globals → Type 0
MayRunFrom roles globals =
    (code : Code) → IsAdmissible code → AreRoles (Occurs code) roles →
    (eres : List (List ℕ)) (budget : ℕ) (state : RecordState) (output : List ℕ) →
    MayRun record {
      code = code;
      roles = roles;
      eres = eres;
      budget = budget;
      globals = globals;
      state = state;
      output = output;
    }
