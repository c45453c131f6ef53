-- Sections of a table, one after the other.
use Rattle.std.specs.Prelude.{◌≡◌, ℕ, ◌+◌, ◌-◌, ◌≤◌, Bool, true, false, List, [], ◌∷◌, ◌++◌, length, Option, Some, None}
use Rattle.std.specs.Io.KnownBytes.{Appends}
use Rattle.pawk_code.specs.ProgramViews.{code_view}
use Rattle.pawk_input.specs.Input.{Item}
use Rattle.pawk_store.specs.Globals.{Globals}
use Rattle.pawk_admit.specs.Admission.{IsAdmissible, AreRoles}
use Rattle.pawk_admit.specs.Reaches.{Occurs}
use Rattle.pawk_admit.specs.Roles.{roles_view}
use Rattle.pawk_store.specs.Records.{Left, through, fault, End}
use Rattle.pawk_store.specs.LeftViews.{left_view}
use Rattle.pawk_frozen.specs.Marks.{Table}
use Rattle.pawk_merge.specs.Tables.{join_table}
use Rattle.pawk_merge_law.specs.Phases.{Phase, MayRun, in_order}
use Rattle.pawk_merge_law.specs.ChunkedRuns.{all_of}
use Rattle.pawk_flow.specs.Flow.{Flow}
use Rattle.pawk_shards.specs.Apart.{HasCome}
use Rattle.pawk_shards.specs.Told.{Tell}
use Rattle.pawk_tables.specs.Layout.{Section}
use Rattle.pawk_tables.specs.Reading.{AreInTurn}
use Rattle.pawk_tables.specs.declared.section.Shape.{Shape}
use Rattle.pawk_table_merge.specs.declared.merging.TableEnd.{TableEnd}
use Rattle.pawk_table_merge.specs.declared.merging.TableEnd.TheVariants as table_end
use Rattle.pawk_table_merge.specs.declared.merging.StopCause.{StopCause}
use Rattle.pawk_table_merge.specs.declared.merging.StopCause.TheVariants as stops
use Rattle.pawk_table_merge.specs.declared.section.Setting.{Setting}
use Rattle.pawk_table_merge.specs.declared.section.Progress.{Progress}
use Rattle.pawk_table_merge.specs.TableMerges.{phase_from, MayGoOn, end_at, IsAt, IsCounted, IsWhole, LeavesSo, IsBeginning}

-- records of the program may be run by it
pub record IsUsable (s : Setting) : Type 0 where
  pub one_byte : length s.rs.now ≤ 1
  pub admissible : IsAdmissible (code_view s.job.code.now)
  pub roles : AreRoles (Occurs (code_view s.job.code.now)) (roles_view s.roles.now)

-- where a run is known to be ready for records they may be run in chunks
abbrev pub IsReady : Setting → Flow → Bool → Type 0
IsReady s flow known = known ≡ true → MayGoOn (code_view s.job.code.now) (roles_view s.roles.now) flow

-- the records after BEGIN, which ended so
abbrev pub phase_of : Setting → End Globals → Phase
phase_of s b = phase_from (code_view s.job.code.now) (roles_view s.roles.now) s.job.budget b

-- a part of so many records that noted this is joined to a run
pub record JoinsPart (records : ℕ) (table : Table) (old new : Flow) : Type 0 where
  pub globals : new.globals ≡ join_table table old.globals
  pub state : new.state ≡ record old.state { nr = old.state.nr + records }

-- A run is in a table after these records: it has come to them, and exactly where the last of them was run here.
pub record IsIn (p : Phase) (items : List Item) (output : List ℕ) (x : Progress) : Type 0 where
  pub come : HasCome p items (end_at x.flow output)
  pub exact : x.has_record ≡ true → in_order p items ≡ end_at x.flow output

-- The records of the first of some chunks have come; the sections that follow tell of the others.
pub record GoesTo (p : Phase) (rs : List ℕ) (items : List Item) (output : List ℕ) (x : Progress)
    (sections : List Section) (chunks : List (List Item)) : Type 0 where
  pub done : List Item
  pub more : List (List Item)
  pub parts : items ++ all_of chunks ≡ done ++ all_of more
  pub is_in : IsIn p done output x
  pub told : Tell p rs (p.state.nr + length done) x.name.now sections more

-- the same, or all of them were left so
abbrev pub GoesSo : Phase → List ℕ → List Item → List ℕ → Progress → List Section → List (List Item) → Option TableEnd → Type 0
GoesSo p rs items output x sections chunks None = GoesTo p rs items output x sections chunks
GoesSo p rs items output x sections chunks (Some end) = LeavesSo p (items ++ all_of chunks) output x.flow end

-- no section after one is looked at where it ended the run, or stops the merge, which tells how many records have come
abbrev pub IsLast : ℕ → ℕ → TableEnd → Type 0
IsLast before now table_end.Through = ⊥
IsLast before now (table_end.Ended left) = Unit {0}
IsLast before now (table_end.Stopped stop) = stop.«record» ≡ now - before

-- the same of a section after which more may follow
abbrev pub IsLastIfAny : ℕ → ℕ → Option TableEnd → Type 0
IsLastIfAny before now None = Unit {0}
IsLastIfAny before now (Some end) = IsLast before now end

-- A section was merged: whatever the records that it and those after it tell of, and wherever the run was.
pub record MergesSection (s : Setting) (section : Section) (taken now_taken : Option (List ℕ))
    (old new : Progress) (end : Option TableEnd) : Type 0 where
  pub wrote : List ℕ
  pub appends : Appends taken now_taken wrote
  pub last : IsLastIfAny s.come new.flow.state.nr end
  pub is : (b : End Globals) → MayRun (phase_of s b) → (items : List Item) (output : List ℕ) → IsIn (phase_of s b) items output old →
      (sections : List Section) (chunks : List (List Item)) →
      Tell (phase_of s b) s.rs.now ((phase_of s b).state.nr + length items) old.name.now (section ∷ sections) chunks →
      GoesSo (phase_of s b) s.rs.now items (output ++ wrote) new sections chunks end

-- how records of a table are left whose last ones were run here and left so; none where more of them may follow
abbrev pub IsCauseOf : Left → StopCause → Type 0
IsCauseOf left stops.Sum = ⊥
IsCauseOf left (stops.Fault f) = left ≡ fault f
IsCauseOf left stops.Element = Unit {0}

abbrev pub IsTableEndOf : Left → Bool → ℕ → TableEnd → Type 0
IsTableEndOf left stopped records table_end.Through = ⊥
IsTableEndOf left stopped records (table_end.Ended l) = (stopped ≡ false) × (left ≡ left_view l) × ¬ (left ≡ through)
IsTableEndOf left stopped records (table_end.Stopped stop) =
    (stopped ≡ true) × IsCauseOf left stop.cause × (stop.«record» ≡ records)

abbrev pub IsEndOf : Left → Bool → ℕ → Option TableEnd → Type 0
IsEndOf left stopped records None = (stopped ≡ false) × (left ≡ through)
IsEndOf left stopped records (Some end) = IsTableEndOf left stopped records end

-- The sections of a table were merged, which begins where all that has come is known.
pub record MergesSections (s : Setting) (shape : Shape) (bytes : List ℕ) (taken now_taken : Option (List ℕ))
    (old new : Flow) (end : TableEnd) : Type 0 where
  pub wrote : List ℕ
  pub appends : Appends taken now_taken wrote
  pub counted : IsCounted s.come new.state.nr end
  pub whole : (sections : List Section) (count : ℕ) → AreInTurn shape.scalars shape.arrays bytes sections count → IsWhole s.come new.state.nr count end
  pub is : (b : End Globals) → MayRun (phase_of s b) → (items : List Item) (output : List ℕ) → IsAt (phase_of s b) items (end_at old output) →
      (sections : List Section) (count : ℕ) → AreInTurn shape.scalars shape.arrays bytes sections count →
      (chunks : List (List Item)) → Tell (phase_of s b) s.rs.now ((phase_of s b).state.nr + length items) [] sections chunks →
      LeavesSo (phase_of s b) (items ++ all_of chunks) (output ++ wrote) new end

-- the bytes that are left after sections, and what they tell of
pub record Remains (p : Phase) (rs : List ℕ) (shape : Shape) (rest : List ℕ) (count : ℕ) (items : List Item) (output : List ℕ) (x : Progress)
    (chunks : List (List Item)) : Type 0 where
  pub sections : List Section
  pub in_turn : AreInTurn shape.scalars shape.arrays rest sections count
  pub goes : GoesTo p rs items output x sections chunks

-- the first sections of a table were merged, and these bytes are left
pub record MergesSome (s : Setting) (shape : Shape) (bytes rest : List ℕ) (taken now_taken : Option (List ℕ))
    (old : Flow) (x : Progress) : Type 0 where
  pub wrote : List ℕ
  pub appends : Appends taken now_taken wrote
  pub turn : (sections : List Section) (count : ℕ) → AreInTurn shape.scalars shape.arrays bytes sections count →
      (others : List Section) × AreInTurn shape.scalars shape.arrays rest others count
  pub is : (b : End Globals) → MayRun (phase_of s b) → (items : List Item) (output : List ℕ) → IsAt (phase_of s b) items (end_at old output) →
      (sections : List Section) (count : ℕ) → AreInTurn shape.scalars shape.arrays bytes sections count →
      (chunks : List (List Item)) → Tell (phase_of s b) s.rs.now ((phase_of s b).state.nr + length items) [] sections chunks →
      Remains (phase_of s b) s.rs.now shape rest count items (output ++ wrote) x chunks

-- ---- refusals

-- A section was refused: what was written of it by then is a beginning of what follows.
pub record RefusesSection (s : Setting) (section : Section) (taken now_taken : Option (List ℕ)) (old : Progress) : Type 0 where
  pub wrote : List ℕ
  pub appends : Appends taken now_taken wrote
  pub is : (b : End Globals) → MayRun (phase_of s b) → (items : List Item) (output : List ℕ) → IsIn (phase_of s b) items output old →
      (sections : List Section) (chunks : List (List Item)) →
      Tell (phase_of s b) s.rs.now ((phase_of s b).state.nr + length items) old.name.now (section ∷ sections) chunks →
      IsBeginning (output ++ wrote) (in_order (phase_of s b) (items ++ all_of chunks)).output

-- the same of the sections of a table
pub record RefusesSections (s : Setting) (shape : Shape) (bytes : List ℕ) (taken now_taken : Option (List ℕ)) (old : Flow) : Type 0 where
  pub wrote : List ℕ
  pub appends : Appends taken now_taken wrote
  pub is : (b : End Globals) → MayRun (phase_of s b) → (items : List Item) (output : List ℕ) → IsAt (phase_of s b) items (end_at old output) →
      (sections : List Section) (count : ℕ) → AreInTurn shape.scalars shape.arrays bytes sections count →
      (chunks : List (List Item)) → Tell (phase_of s b) s.rs.now ((phase_of s b).state.nr + length items) [] sections chunks →
      IsBeginning (output ++ wrote) (in_order (phase_of s b) (items ++ all_of chunks)).output
