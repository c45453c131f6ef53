-- What the sections of a table file say of the records of a shard: what parts of them left, whose chunks were run apart, each over
-- the globals that BEGIN left; and which records are kept as bytes, to be run in order where tables are merged.
-- POSIX.1-2017, awk, "Overall Program Structure".
use Rattle.std.specs.Prelude.{◌≡◌, ℕ, ◌+◌, List, [], ◌∷◌, ◌++◌, length}
use Rattle.pawk_records.specs.Records.{records_by}
use Rattle.pawk_input.specs.Input.{Item, file_items}
use Rattle.pawk_store.specs.RecordStates.{RecordState}
use Rattle.pawk_store.specs.Records.{through}
use Rattle.pawk_frozen.specs.Marks.{Table}
use Rattle.pawk_commute.specs.Settings.{HasSlots}
use Rattle.pawk_merge.specs.Merges.{Chunk}
use Rattle.pawk_merge_law.specs.Phases.{Phase}
use Rattle.pawk_merge_law.specs.ChunkedRuns.{IsTold, HasRecord}
use Rattle.pawk_shards.specs.Joined.{AreComposed}
use Rattle.pawk_tables.specs.Layout.{Section, file, part, kept}

-- records of a file that are kept as bytes
abbrev pub kept_records : List ℕ → List ℕ → ℕ → List ℕ → List Item
kept_records rs name fnr bytes = file_items 0 name 0 fnr (records_by rs bytes)

-- Of which chunks a part is: of one that was run apart, and left this record state; or of those of two parts, one after the other,
-- whose tables were composed.
pub data Origin : Type 0 where
  one_chunk : RecordState → Origin
  two_parts : Origin → Origin → Origin

-- the record state that the last of them left
abbrev pub last_state : Origin → RecordState
last_state (one_chunk state) = state
last_state (two_parts first second) = last_state second

-- what a part says, as of a chunk that was left through
abbrev pub part_chunk : RecordState → List ℕ → Table → Chunk
part_chunk state output table = record { table = table; state = state; output = output; left = through }

-- What one chunk says of these records, of which there is one, and which come after so many: how many they are; and what they write
-- and note where they are run apart, which they are left through.
pub record IsOfChunk (p : Phase) (state : RecordState) (nr : ℕ) (chunk : List Item) (count : ℕ) (output : List ℕ) (table : Table) : Type 0 where
  pub some : HasRecord chunk
  pub counted : length chunk ≡ count
  pub told : IsTold p nr chunk (part_chunk state output table)

-- What two parts say, one after the other, of the records of both: as many as in both, what both write, and the second's marks
-- after the first's.
pub record IsOfTwo (p : Phase) (First : List Item → ℕ → List ℕ → Table → Type 0) (Second : ℕ → List Item → ℕ → List ℕ → Table → Type 0)
    (chunk : List Item) (count : ℕ) (output : List ℕ) (table : Table) : Type 0 where
  pub first_items : List Item
  pub first_count : ℕ
  pub first_output : List ℕ
  pub first_table : Table
  pub second_items : List Item
  pub second_count : ℕ
  pub second_output : List ℕ
  pub second_table : Table
  pub first : First first_items first_count first_output first_table
  pub second : Second first_count second_items second_count second_output second_table
  pub items : first_items ++ second_items ≡ chunk
  pub counted : first_count + second_count ≡ count
  pub outputs : first_output ++ second_output ≡ output
  pub composed : AreComposed first_table second_table table
  pub slots : HasSlots table.scalars table.arrays p.globals

-- What a part of this origin says of these records, which come after so many.
abbrev pub Says : Phase → Origin → ℕ → List Item → ℕ → List ℕ → Table → Type 0
Says p (one_chunk state) nr chunk count output table = IsOfChunk p state nr chunk count output table
Says p (two_parts first second) nr chunk count output table =
    IsOfTwo p (Says p first nr) (λ before. Says p second (nr + before)) chunk count output table

-- What a part says of these records, which come after so many: it says so of some origin.
pub record IsPartOf (p : Phase) (nr : ℕ) (chunk : List Item) (count : ℕ) (output : List ℕ) (table : Table) : Type 0 where
  pub origin : Origin
  pub says : Says p origin nr chunk count output table

-- Sections, of which the first comes after so many records and is of the file of this name, say so of these records: a list of
-- them for each part, and one for each section of records that are kept.
abbrev pub Tell : Phase → List ℕ → ℕ → List ℕ → List Section → List (List Item) → Type 0
Tell p rs nr name [] [] = Unit {0}
Tell p rs nr name [] (c ∷ cs) = ⊥
Tell p rs nr name (file other ∷ ss) cs = Tell p rs nr other ss cs
Tell p rs nr name (part count output table ∷ ss) [] = ⊥
Tell p rs nr name (part count output table ∷ ss) (c ∷ cs) =
    IsPartOf p nr c count output table × Tell p rs (nr + count) name ss cs
Tell p rs nr name (kept fnr bytes ∷ ss) [] = ⊥
Tell p rs nr name (kept fnr bytes ∷ ss) (c ∷ cs) =
    HasRecord c × (kept_records rs name fnr bytes ≡ c) × Tell p rs (nr + length c) name ss cs
