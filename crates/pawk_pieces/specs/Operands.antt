-- A run over files and the assignments among them. POSIX.1-2017, awk, "OPERANDS" (assignment): one before the first file is made
-- after BEGIN, one before another file before that file is read, one after the last file before END.
use Rattle.std.specs.Prelude.{◌≡◌, ◌⊎◌, ℕ, ◌<◌, nat_le, if◌then◌else◌, List, [], ◌∷◌, ◌++◌, length, map}
use Rattle.pawk_value.specs.declared.faults.Fault.TheVariants as faults
use Rattle.pawk_value.specs.Value.{Val}
use Rattle.pawk_code.specs.Programs.{Code}
use Rattle.pawk_input.specs.Input.{File}
use Rattle.pawk_store.specs.Globals.{Globals, calls}
use Rattle.pawk_store.specs.Openings.{value_after}
use Rattle.pawk_admit.specs.Admission.{IsAdmissible, IsFirst, AreRoles}
use Rattle.pawk_admit.specs.Reaches.{Occurs}
use Rattle.pawk_admit.specs.Roles.{Roles}
use Rattle.pawk_store.specs.Records.{Left, through, next_file, exit, fault, clash, End}
use Rattle.pawk_store.specs.Runs.{Finish, reads_records, take_separator, finish_of, ends_from, in_begin, at_record, fault_at, disallowed}
use Rattle.pawk_merge_law.specs.Phases.{Phase, MayRun, opening}
use Rattle.pawk_merge_law.specs.Flows.{Pairs, Turn, plain_turn, after_assignments, rest_in_turns}
use Rattle.pawk_merge_law.specs.Redone.{TurnsFaultOrCreate}
use Rattle.pawk_routes.specs.Routes.{IsRoute, begin_end, whole_run, separator_of, HasRecords, phase_after}
use Rattle.pawk_routes.specs.declared.report.Route.{Route}
use Rattle.pawk_routes.specs.declared.report.Route.TheVariants.{NoMain, NotAdmitted, Redo, Parallel}

-- files with the assignments before each, where those before the first are apart, and those after the last
pub record Operands : Type 0 where
  pub first : Pairs
  pub turns : List Turn
  pub last : Pairs

-- files alone
abbrev pub plain_operands : List File → Operands
plain_operands files = record { first = []; turns = map plain_turn files; last = [] }

-- the values of scalars of these names after assignments: of each name what it is assigned last, as before a run
abbrev pub assigned_values : List (List ℕ) → Pairs → List Val → List Val
assigned_values [] pairs vs = vs
assigned_values (name ∷ names) pairs [] = []
assigned_values (name ∷ names) pairs (v ∷ vs) = value_after pairs name v ∷ assigned_values names pairs vs

-- globals after assignments to scalars of these names; a name that is not among them changes nothing
abbrev pub assigned : List (List ℕ) → Pairs → Globals → Globals
assigned names pairs g = record g { scalars = assigned_values names pairs g.scalars }

module _ (code : Code) (budget : ℕ) where
  -- the rest of a run from where files begin
  abbrev pub rest_over : List ℕ → Pairs → End Globals → List Turn → Finish Globals
  rest_over rs last e turns = rest_in_turns calls code.expressions code budget (assigned code.scalars) last rs e turns

  -- the files by RS as it is before the first of them; RS of more than one byte is a fault at record 1
  abbrev pub files_over : List ℕ → Operands → End Globals → Finish Globals
  files_over rs o e =
      if nat_le (length rs) 1
      then rest_over rs o.last (take_separator rs e) o.turns
      else finish_of (fault_at faults.Rs (at_record 1)) (take_separator rs e)

  -- the end of BEGIN after the first assignments
  abbrev pub after_first : Operands → End Globals → End Globals
  after_first o e = after_assignments (assigned code.scalars) o.first e

  -- how a run goes on after BEGIN: the first assignments are made where records are read
  abbrev pub after_begin_over : Operands → Left → End Globals → Finish Globals
  after_begin_over o through e =
      if reads_records code then files_over (separator_of (after_first o e)) o (after_first o e)
      else ends_from calls code.expressions code budget e
  after_begin_over o next_file e = ends_from calls code.expressions code budget e
  after_begin_over o (exit n) e = ends_from calls code.expressions code budget e
  after_begin_over o (fault f) e = finish_of (fault_at f in_begin) e
  after_begin_over o clash e = finish_of disallowed e

  -- the whole run, with these assignments made before BEGIN
  abbrev pub run_over : Pairs → Operands → Finish Globals
  run_over assignments o = let e = begin_end code budget assignments in after_begin_over o e.left e

  -- From this end of BEGIN, after the first assignments, the records of the files end in a fault, or create an element of an
  -- array that is no reader array. An RS of more than one byte is a fault.
  abbrev pub IsRedoneOver : List Turn → End Globals → Type 0
  IsRedoneOver turns e =
      (1 < length (separator_of e))
      ⊎ ((roles : Roles) × AreRoles (Occurs code) roles
      × TurnsFaultOrCreate (assigned code.scalars) (phase_after code roles budget e) (separator_of e) (opening (phase_after code roles budget e)) turns)

  -- the route of a run whose BEGIN and first assignments end so
  abbrev pub IsRouteFrom : List Turn → End Globals → Route → Type 0
  IsRouteFrom turns e NoMain = ¬ HasRecords code e
  IsRouteFrom turns e (NotAdmitted reason) = HasRecords code e × IsFirst (Occurs code) reason
  IsRouteFrom turns e Redo = HasRecords code e × IsAdmissible code × IsRedoneOver turns e
  IsRouteFrom turns e Parallel = HasRecords code e × IsAdmissible code × ¬ IsRedoneOver turns e

  -- the route of a whole run
  abbrev pub IsRouteOver : Pairs → Operands → Route → Type 0
  IsRouteOver assignments o route = IsRouteFrom o.turns (after_first o (begin_end code budget assignments)) route

-- Where nothing is assigned among the files, that is the run of the files, and its route.
abbrev pub PlainLaw : Type 0
PlainLaw =
    (code : Code) (budget : ℕ) (assignments : Pairs) (files : List File) →
    (run_over code budget assignments (plain_operands files) ≡ whole_run code budget assignments files)
    × ((route : Route) →
    (IsRouteOver code budget assignments (plain_operands files) route → IsRoute code budget files (begin_end code budget assignments) route)
    × (IsRoute code budget files (begin_end code budget assignments) route → IsRouteOver code budget assignments (plain_operands files) route))

-- An assignment among the files gives a scalar what one before the run would: what it is assigned last, or what it has.
abbrev pub AssignedLaw : Type 0
AssignedLaw =
    (names : List (List ℕ)) (pairs more : Pairs) (g : Globals) →
    (assigned names [] g ≡ g) × (assigned names more (assigned names pairs g) ≡ assigned names (pairs ++ more) g)

-- After assignments among the files, records that may be run in chunks may still be run so.
abbrev pub ReadyLaw : Type 0
ReadyLaw =
    (p : Phase) (pairs : Pairs) → MayRun p → MayRun (record p { globals = assigned p.code.scalars pairs p.globals })
