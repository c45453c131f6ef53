-- Tables of shards that are merged one after the other, and the run that they make. POSIX.1-2017, awk, "Overall Program
-- Structure".
use Rattle.std.specs.Prelude.{◌≡◌, ℕ, ◌+◌, ◌-◌, ◌≤◌, true, List, [], ◌++◌, length, Option, Ok}
use Rattle.std.specs.Io.KnownBytes.{Appends}
use Rattle.pawk_code.specs.Programs.{Code}
use Rattle.pawk_input.specs.Input.{Item}
use Rattle.pawk_store.specs.Globals.{Globals}
use Rattle.pawk_admit.specs.Admission.{IsAdmissible, AreRoles}
use Rattle.pawk_admit.specs.Reaches.{Occurs}
use Rattle.pawk_admit.specs.Roles.{Roles, roles_view}
use Rattle.pawk_store.specs.Records.{End, through, fault}
use Rattle.pawk_store.specs.Runs.{Finish}
use Rattle.pawk_store.specs.LeftViews.{left_view}
use Rattle.pawk_merge_law.specs.Phases.{Phase, MayRun, in_order, FaultsOrCreates}
use Rattle.pawk_merge_law.specs.ChunkedRuns.{all_of}
use Rattle.pawk_sequential.specs.RunEnds.{AreSpecials, ending_view}
use Rattle.pawk_flow.specs.Begins.{IsStart}
use Rattle.pawk_flow.specs.Pieces.{end_between, phase_between}
use Rattle.pawk_flow.specs.Start.{Start}
use Rattle.pawk_flow.specs.Flow.{Flow}
use Rattle.pawk_merge_law.specs.Flows.{Pairs, Turn}
use Rattle.pawk_flow.specs.Operands.{run_over}
use Rattle.pawk_numbered.specs.Mentions.{reads_number}
use Rattle.pawk_shards.specs.Apart.{HasCome}
use Rattle.pawk_shards.specs.Told.{Tell}
use Rattle.pawk_tables.specs.Layout.{Section}
use Rattle.pawk_tables.specs.Reading.{AreInTurn}
use Rattle.pawk_table_merge.specs.declared.merging.Merging.{Merging}
use Rattle.pawk_table_merge.specs.declared.merging.MergeStart.{MergeStart}
use Rattle.pawk_table_merge.specs.declared.merging.MergeStart.TheVariants as begun
use Rattle.pawk_table_merge.specs.declared.merging.Conclusion.{Conclusion}
use Rattle.pawk_table_merge.specs.declared.merging.TableEnd.{TableEnd}
use Rattle.pawk_table_merge.specs.declared.merging.TableEnd.TheVariants as table_end
use Rattle.pawk_table_merge.specs.declared.merging.StopCause.{StopCause}
use Rattle.pawk_table_merge.specs.declared.merging.StopCause.TheVariants as stops

-- ---- where a run is

-- the records that follow may be run in chunks, whatever the steps that each may take
abbrev pub MayGoOn : Code → Roles → Flow → Type 0
MayGoOn code roles flow = (budget : ℕ) → MayRun (phase_between code roles budget flow)

-- a run over tables of this program: RS has at most one byte, and the records may be run in chunks, where they do this with each
-- global; so may those that follow, where the run is known to be ready for them
pub record IsMergeOf (code : Code) (m : Merging) : Type 0 where
  pub one_byte : length m.rs.items ≤ 1
  pub admissible : IsAdmissible code
  pub roles : AreRoles (Occurs code) (roles_view m.roles)
  pub ready : m.is_ready ≡ true → MayGoOn code (roles_view m.roles) m.flow

-- the records after BEGIN, which ended so
abbrev pub phase_from : Code → Roles → ℕ → End Globals → Phase
phase_from code roles budget b = record {
  code = code;
  roles = roles;
  eres = code.expressions;
  budget = budget;
  globals = b.world;
  state = b.state;
  output = b.output;
}

-- where a run is that wrote this so far
abbrev pub end_at : Flow → List ℕ → End Globals
end_at flow output = record (end_between flow) { output = output }

-- A run is here after these records, exactly: all of them in order end so, were left through, and neither end in a fault nor
-- create an element of an array that is no reader array.
pub record IsAt (p : Phase) (items : List Item) (e : End Globals) : Type 0 where
  pub ends : in_order p items ≡ e
  pub come : HasCome p items e

-- two runs over tables of one program, with one RS and one shape of tables
pub record AreAlike (m x : Merging) : Type 0 where
  pub rs : x.rs ≡ m.rs
  pub roles : x.roles ≡ m.roles
  pub shape : x.shape ≡ m.shape
  pub opened : x.opened ≡ m.opened

-- ---- a table

-- What stops a merge: these records end in a fault, or create an element of an array that is no reader array.
abbrev pub StopsAt : Phase → List Item → StopCause → Type 0
StopsAt p items stops.Sum = FaultsOrCreates p items
StopsAt p items (stops.Fault f) = ((in_order p items).left ≡ fault f) × FaultsOrCreates p items
StopsAt p items stops.Element = FaultsOrCreates p items

-- How these records were left, which are all that have come, and wrote this: they got here, and more may follow; they ended the
-- run here, whatever follows; or they are not merged.
abbrev pub LeavesSo : Phase → List Item → List ℕ → Flow → TableEnd → Type 0
LeavesSo p items output flow table_end.Through = IsAt p items (end_at flow output)
LeavesSo p items output flow (table_end.Ended left) =
    (in_order p items ≡ record (end_at flow output) { left = left_view left }) × (¬ (left_view left ≡ through))
    × ¬ FaultsOrCreates p items
LeavesSo p items output flow (table_end.Stopped stop) = StopsAt p items stop.cause

-- a stop tells how many records of the table have come, of which NR says how many have come in all
abbrev pub IsCounted : ℕ → ℕ → TableEnd → Type 0
IsCounted before now table_end.Through = Unit {0}
IsCounted before now (table_end.Ended left) = Unit {0}
IsCounted before now (table_end.Stopped stop) = stop.«record» ≡ now - before

-- where all records were left through they are as many as the table says
abbrev pub IsWhole : ℕ → ℕ → ℕ → TableEnd → Type 0
IsWhole before now count table_end.Through = now - before ≡ count
IsWhole before now count (table_end.Ended left) = Unit {0}
IsWhole before now count (table_end.Stopped stop) = Unit {0}

-- A table was merged, by whose word so many records come before its own, as many as have come where the program reads NR: whatever
-- the records that its sections tell of, and wherever the run was, it goes on with them so. What they write is written.
pub record MergesTable (code : Code) (budget before : ℕ) (bytes : List ℕ) (taken now_taken : Option (List ℕ))
    (old new : Merging) (end : TableEnd) : Type 0 where
  pub wrote : List ℕ
  pub appends : Appends taken now_taken wrote
  pub counted : IsCounted old.flow.state.nr new.flow.state.nr end
  pub whole : (sections : List Section) (count : ℕ) → AreInTurn old.shape.scalars old.shape.arrays bytes sections count →
      IsWhole old.flow.state.nr new.flow.state.nr count end
  pub numbered : reads_number code ≡ true → before ≡ old.flow.state.nr - old.opened
  pub is : (b : End Globals) →
      let p = phase_from code (roles_view old.roles) budget b in
      MayRun p → old.opened ≡ p.state.nr → (items : List Item) (output : List ℕ) → IsAt p items (end_at old.flow output) →
      (sections : List Section) (count : ℕ) → AreInTurn old.shape.scalars old.shape.arrays bytes sections count →
      (chunks : List (List Item)) → Tell p old.rs.items (p.state.nr + before) [] sections chunks →
      LeavesSo p (items ++ all_of chunks) (output ++ wrote) new.flow end

-- ---- refusals

-- the first bytes of all of these
abbrev pub IsBeginning : List ℕ → List ℕ → Type 0
IsBeginning front all = (rest : List ℕ) × (all ≡ front ++ rest)

-- the sink took a beginning of this output
pub record WroteSome (taken now_taken : Option (List ℕ)) (output : List ℕ) : Type 0 where
  pub wrote : List ℕ
  pub appends : Appends taken now_taken wrote
  pub is : IsBeginning wrote output

-- A table was refused: what was written of it by then is a beginning of what its records write, whatever the records that its
-- sections tell of, and wherever the run was.
pub record RefusesTable (code : Code) (budget before : ℕ) (bytes : List ℕ) (taken now_taken : Option (List ℕ))
    (old : Merging) : Type 0 where
  pub wrote : List ℕ
  pub appends : Appends taken now_taken wrote
  pub is : (b : End Globals) →
      let p = phase_from code (roles_view old.roles) budget b in
      MayRun p → old.opened ≡ p.state.nr → (items : List Item) (output : List ℕ) → IsAt p items (end_at old.flow output) →
      (sections : List Section) (count : ℕ) → AreInTurn old.shape.scalars old.shape.arrays bytes sections count →
      (chunks : List (List Item)) → Tell p old.rs.items (p.state.nr + before) [] sections chunks →
      IsBeginning (output ++ wrote) (in_order p (items ++ all_of chunks)).output

-- ---- a run

-- the run of this finish left so much beside its output, and the output was written
pub record Concludes (meant : Finish Globals) (taken now_taken : Option (List ℕ)) (c : Conclusion) : Type 0 where
  pub globals : meant.world ≡ c.globals
  pub specials : AreSpecials c.specials meant.state
  pub ending : meant.ending ≡ ending_view c.ending
  pub wrote : Appends taken now_taken meant.output

module _ (code : Code) (budget : ℕ) (assignments first : Pairs) where
  -- A run over tables begins here: the rest of it follows, whatever the files, and what BEGIN wrote is written.
  pub record IsBegin (taken now_taken : Option (List ℕ)) (m : Merging) : Type 0 where
    pub start : Start
    pub is : IsStart code budget assignments first start
    pub flow : m.flow ≡ start.flow
    pub rs : m.rs ≡ start.rs
    pub roles : start.roles ≡ Ok m.roles
    pub scalars : m.shape.scalars ≡ length start.flow.globals.scalars
    pub arrays : m.shape.arrays ≡ length start.flow.globals.arrays
    pub opened : m.opened ≡ start.flow.state.nr
    pub wrote : Appends taken now_taken start.output.items

  -- The run has ended, whatever the files; or tables are to come.
  abbrev pub BeginsSo : Option (List ℕ) → Option (List ℕ) → MergeStart → Type 0
  BeginsSo taken now_taken (begun.Ended c) =
      (turns : List Turn) (last : Pairs) →
      Concludes (run_over code budget assignments (record { first = first; turns = turns; last = last })) taken now_taken c
  BeginsSo taken now_taken (begun.Goes m) = IsBegin taken now_taken m × IsMergeOf code m
