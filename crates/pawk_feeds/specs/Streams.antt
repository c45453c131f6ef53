-- A run over feeds, piece by piece. POSIX.1-2017, awk, "Overall Program Structure" and "STDIN".
use Rattle.std.specs.Prelude.{◌≡◌, ◌↔◌, ℕ, ◌≤◌, List, [], ◌++◌, length, Option, Some, None, IfSome, Bool, true, false}
use Rattle.std.specs.Io.KnownBytes.{Appends, Consumes, IsAtEnd}
use Rattle.pawk_records.specs.Records.{records_by}
use Rattle.pawk_code.specs.Programs.{Code}
use Rattle.pawk_code.specs.ProgramViews.{code_view}
use Rattle.pawk_input.specs.Input.{File}
use Rattle.pawk_store.specs.Openings.{pairs_of}
use Rattle.pawk_store.specs.Globals.{Globals, calls}
use Rattle.pawk_admit.specs.Roles.{roles_view}
use Rattle.pawk_admit.specs.declared.role.Roles.{Roles}
use Rattle.pawk_store.specs.Records.{Left, through, next_file, exit, fault, clash, End}
use Rattle.pawk_store.specs.Runs.{Finish, after_records}
use Rattle.pawk_store.specs.Outputs.{finish_with_output_before}
use Rattle.pawk_merge_law.specs.Phases.{Phase, MayRun}
use Rattle.pawk_merge_law.specs.Flows.{Pairs, Turn, after_piece, rest_in_file}
use Rattle.pawk_merge_law.specs.Redone.{FileFaultsOrCreates, TurnsFaultOrCreate}
use Rattle.pawk_admit.specs.declared.reason.Reason.{Reason}
use Rattle.pawk_routes.specs.declared.report.Route.{Route}
use Rattle.pawk_routes.specs.declared.report.Route.TheVariants.{NotAdmitted, Redo, Parallel}
use Rattle.pawk_routes.specs.Limits.{IsCrew}
use Rattle.pawk_routes.specs.Cuttings.{IsSized}
use Rattle.pawk_flow.specs.Operands.{assigned, rest_over}
use Rattle.pawk_flow.specs.Pieces.{end_between, phase_between}
use Rattle.pawk_flow.specs.Flow.{Flow}
use Rattle.pawk_feeds.specs.Feeds.{WroteSome}
use Rattle.pawk_feeds.specs.declared.stream.Setting.{Setting}
use Rattle.pawk_feeds.specs.declared.stream.Stream.{Stream}

-- what the rest of a run depends on, and stays the same: the code, the steps that a record may take, the bytes of RS, and what is
-- assigned after the last file
pub record Course : Type 0 where
  pub code : Code
  pub budget : ℕ
  pub rs : List ℕ
  pub last : Pairs

abbrev pub course_of : Setting → Course
course_of s = record {
  code = code_view s.job.code.now;
  budget = s.job.budget;
  rs = s.rs.now;
  last = pairs_of s.last.now;
}

-- a piece may be run in chunks by it: RS has at most one byte, and the way may be gone
pub record IsUsable (s : Setting) : Type 0 where
  pub one_byte : length s.rs.now ≤ 1
  pub sized : IsSized s.way.cutting.now
  pub workers : IsCrew s.way.workers

module _ (u : Course) where
  -- how a run goes on with files from here
  abbrev pub with_turns : Flow → List Turn → Finish Globals
  with_turns flow ts = rest_over u.code u.budget u.rs u.last (end_between flow) ts

  -- from inside a file of this name, so many of whose records came before: with these bytes of it, and then with files
  abbrev pub with_bytes : Flow → List ℕ → ℕ → List ℕ → List Turn → Finish Globals
  with_bytes flow name fnr bytes ts =
      rest_in_file calls u.code.expressions u.code u.budget (assigned u.code.scalars) u.last u.rs
      (end_between flow) name fnr (records_by u.rs bytes) ts

  -- with a file whose assignments are made, and then with files
  abbrev pub with_file : Flow → File → List Turn → Finish Globals
  with_file flow file ts = with_bytes flow file.name 0 file.bytes ts

  -- the same after records of the file that were left so: what follows is read where they were left through, and the files
  -- after it alone after `nextfile`
  abbrev pub as_left : Left → Flow → List ℕ → ℕ → List ℕ → List Turn → Finish Globals
  as_left left flow name fnr bytes ts =
      after_piece calls u.code.expressions u.code u.budget
      (λ x. rest_in_file calls u.code.expressions u.code u.budget (assigned u.code.scalars) u.last u.rs x name fnr (records_by u.rs bytes) ts)
      (λ x. rest_over u.code u.budget u.rs u.last x ts)
      left (end_between flow)

  -- the same after a file
  abbrev pub file_left : Left → Flow → List Turn → Finish Globals
  file_left left flow ts =
      let more : End Globals → Finish Globals = (λ x. rest_over u.code u.budget u.rs u.last x ts) in
      after_piece calls u.code.expressions u.code u.budget more more left (end_between flow)

  -- a stream that may go on: its window is cut by RS, and where there are roles the next piece may be run in chunks
  pub record IsReady (s : Stream) : Type 0 where
    pub by_rs : s.window.rs ≡ u.rs
    pub may_run : IfSome s.roles (λ r. MayRun (phase_between u.code (roles_view r) u.budget s.flow))

-- What is told of a run by the roles before and after: while they stay, it is so before where it is so after; and it is so before
-- where they are gone.
abbrev pub Tells : (Roles → Type 0) → (Roles → Type 0) → Option Roles → Option Roles → Type 0
Tells Old New None None = Unit {0}
Tells Old New None (Some r) = ⊥
Tells Old New (Some r) None = Old r
Tells Old New (Some r) (Some now) = (now ≡ r) × (Old r ↔ New r)

module _ (u : Course) where
  -- what follows as a phase of its own
  abbrev pub phase_of : Flow → Roles → Phase
  phase_of flow r = phase_between u.code (roles_view r) u.budget flow

  -- the records of files from here end in a fault, or create an element of an array that is no reader array
  abbrev pub turns_fault : Flow → List Turn → Roles → Type 0
  turns_fault flow ts r = TurnsFaultOrCreate (assigned u.code.scalars) (phase_of flow r) u.rs (end_between flow) ts

  -- the same from inside a file
  abbrev pub bytes_fault : Flow → List ℕ → ℕ → List ℕ → List Turn → Roles → Type 0
  bytes_fault flow name fnr bytes ts r =
      FileFaultsOrCreates (assigned u.code.scalars) (phase_of flow r) u.rs (end_between flow) name fnr (records_by u.rs bytes) ts

  -- the same with a file whose assignments are made
  abbrev pub file_fault : Flow → File → List Turn → Roles → Type 0
  file_fault flow file ts r = bytes_fault flow file.name 0 file.bytes ts r

  -- the same after records that were left so
  abbrev pub left_faults : Left → Flow → List ℕ → ℕ → List ℕ → List Turn → Roles → Type 0
  left_faults through flow name fnr bytes ts r = bytes_fault flow name fnr bytes ts r
  left_faults next_file flow name fnr bytes ts r = turns_fault flow ts r
  left_faults (exit n) flow name fnr bytes ts r = ⊥
  left_faults (fault f) flow name fnr bytes ts r = ⊥
  left_faults clash flow name fnr bytes ts r = ⊥

  -- the same after a file
  abbrev pub file_left_faults : Left → Flow → List Turn → Roles → Type 0
  file_left_faults through flow ts r = turns_fault flow ts r
  file_left_faults next_file flow ts r = turns_fault flow ts r
  file_left_faults (exit n) flow ts r = ⊥
  file_left_faults (fault f) flow ts r = ⊥
  file_left_faults clash flow ts r = ⊥

-- Part of a file was read, run and written, and how the run goes on was kept: whatever else of the file follows, which is nothing
-- where its source has ended, and whatever files. Given are what the source has and the sink took, before and after.
pub record RunsOn (u : Course) (left now_left taken now_taken : Option (List ℕ)) (name : List ℕ)
    (old : Stream) (fnr : ℕ) (how : Left) (new : Stream) (now_fnr : ℕ) : Type 0 where
  pub read : List ℕ
  pub consumes : Consumes left now_left read
  pub wrote : List ℕ
  pub appends : Appends taken now_taken wrote
  pub ended : new.window.ended ≡ true → (new.window.tail ≡ []) × IsAtEnd now_left
  pub is : (more : List ℕ) (ts : List Turn) → (new.window.ended ≡ true → more ≡ []) →
      with_bytes u old.flow name fnr (old.window.tail ++ (read ++ more)) ts
      ≡ finish_with_output_before wrote (as_left u how new.flow name now_fnr (new.window.tail ++ more) ts)
  pub tells : (more : List ℕ) (ts : List Turn) → (new.window.ended ≡ true → more ≡ []) →
      Tells (bytes_fault u old.flow name fnr (old.window.tail ++ (read ++ more)) ts)
      (left_faults u how new.flow name now_fnr (new.window.tail ++ more) ts) old.roles new.roles

-- A run of a file from here was refused, and what was written is a beginning of what the run writes, over some bytes of the file
-- that its source may have.
pub record RefusesIn (u : Course) (left taken now_taken : Option (List ℕ)) (name : List ℕ) (s : Stream) (fnr : ℕ) : Type 0 where
  pub bytes : List ℕ
  pub all : IfSome left (λ all. bytes ≡ all)
  pub wrote : (ts : List Turn) →
      WroteSome taken now_taken (with_bytes u s.flow name fnr (s.window.tail ++ bytes) ts).output

-- A file was run and its output written, and how the run goes on was kept, whatever files follow.
pub record RunsFile (u : Course) (taken now_taken : Option (List ℕ)) (file : File)
    (old : Stream) (how : Left) (new : Stream) : Type 0 where
  pub wrote : List ℕ
  pub appends : Appends taken now_taken wrote
  pub is : (ts : List Turn) →
      with_file u old.flow file ts ≡ finish_with_output_before wrote (file_left u how new.flow ts)
  pub tells : (ts : List Turn) →
      Tells (file_fault u old.flow file ts) (file_left_faults u how new.flow ts) old.roles new.roles

-- Files were run, each after its assignments, and their output written, and how the run goes on was kept, whatever files follow.
pub record RunsOver (u : Course) (taken now_taken : Option (List ℕ)) (done : List Turn) (old new : Stream) : Type 0 where
  pub wrote : List ℕ
  pub appends : Appends taken now_taken wrote
  pub is : (ts : List Turn) →
      with_turns u old.flow (done ++ ts) ≡ finish_with_output_before wrote (with_turns u new.flow ts)
  pub tells : (ts : List Turn) → Tells (turns_fault u old.flow (done ++ ts)) (turns_fault u new.flow ts) old.roles new.roles

-- These are all files of a run: END follows after they were left so, and after the last assignments where no file ended the run.
pub record RunsFiles (u : Course) (taken now_taken : Option (List ℕ)) (turns : List Turn)
    (old : Stream) (how : Left) (new : Stream) : Type 0 where
  pub wrote : List ℕ
  pub appends : Appends taken now_taken wrote
  pub is :
      with_turns u old.flow turns
      ≡ finish_with_output_before wrote (after_records calls u.code.expressions u.code u.budget how (end_between new.flow))
  pub tells : Tells (turns_fault u old.flow turns) (λ r. ⊥) old.roles new.roles

-- no file is read after one that was left so
abbrev pub is_over : Left → Bool
is_over through = false
is_over next_file = false
is_over (exit n) = true
is_over (fault f) = true
is_over clash = true

-- which way a run went that was not admitted for this reason, or was; and then it has roles at its end or not
abbrev pub route_from : Option Reason → Bool → Route
route_from (Some reason) runs_in_chunks = NotAdmitted reason
route_from None true = Parallel
route_from None false = Redo
