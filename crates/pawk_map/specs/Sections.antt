-- Sections of a table file that tell of records. POSIX.1-2017, awk, "Overall Program Structure".
use Rattle.std.specs.Prelude.{◌≡◌, ℕ, ◌+◌, ◌≤◌, List, [], ◌∷◌, ◌++◌, length, take, drop, All}
use Rattle.pawk_records.specs.Records.{records_by}
use Rattle.pawk_input.specs.Input.{Item}
use Rattle.pawk_store.specs.Records.{through}
use Rattle.pawk_merge.specs.Merges.{Chunk}
use Rattle.pawk_merge_law.specs.Phases.{Phase}
use Rattle.pawk_merge_law.specs.ChunkedRuns.{IsTold, all_of}
use Rattle.pawk_lines.specs.Lines.{Line, IsLine}
use Rattle.pawk_parts.specs.Parts.{all_bytes}
use Rattle.pawk_tables.specs.Layout.{Section, file, part, kept, AllSpell}
use Rattle.pawk_shards.specs.Numbers.{AreSameButNumbers}

-- the first p bytes are whole records, and the others are the rest of the records
pub record Parts (rs bytes : List ℕ) (p : ℕ) : Type 0 where
  pub within : p ≤ length bytes
  pub parts : records_by rs bytes ≡ records_by rs (take p bytes) ++ records_by rs (drop p bytes)

-- the bytes are those of lines that spell the sections, with tables of so many scalars and arrays
pub record SaySections (scalars arrays : ℕ) (sections : List Section) (bytes : List ℕ) : Type 0 where
  pub lines : List Line
  pub are : All IsLine lines
  pub spell : AllSpell scalars arrays sections lines
  pub whole : bytes ≡ all_bytes lines

-- the name of the file of the last section, where it was this before
abbrev pub name_after : List ℕ → List Section → List ℕ
name_after name [] = name
name_after name (file other ∷ ss) = name_after other ss
name_after name (part count output table ∷ ss) = name_after name ss
name_after name (kept fnr bytes ∷ ss) = name_after name ss

-- ---- records that do not go through

-- Some of these records, which come after so many, are a chunk that is not left through where it is run apart.
pub record DoesNotGoThrough (p : Phase) (nr : ℕ) (items : List Item) : Type 0 where
  pub before : List Item
  pub chunk : List Item
  pub after : List Item
  pub are : AreSameButNumbers (before ++ (chunk ++ after)) items
  pub result : Chunk
  pub told : IsTold p (nr + length before) chunk result
  pub stops : ¬ (result.left ≡ through)

-- The last section keeps records that do not go through; the first of all records comes after so many.
pub record EndsKept (p : Phase) (nr : ℕ) (sections : List Section) (chunks : List (List Item)) : Type 0 where
  pub front : List Section
  pub fnr : ℕ
  pub bytes : List ℕ
  pub is : sections ≡ front ++ kept fnr bytes ∷ []
  pub first : List (List Item)
  pub last : List Item
  pub are : chunks ≡ first ++ last ∷ []
  pub stops : DoesNotGoThrough p (nr + length (all_of first)) last
