-- What is read of a table file, from its front to its end.
use Rattle.std.specs.Prelude.{◌≡◌, ℕ, Bool, true, false, List, [], ◌∷◌, ◌++◌, All}
use Rattle.pawk_frozen.specs.Marks.{Table}
use Rattle.pawk_lines.specs.Lines.{Line, IsLine, BeginsLine}
use Rattle.pawk_lines.specs.Lines as lines
use Rattle.pawk_parts.specs.Parts.{all_bytes, BeginsOtherLine, SayTable}
use Rattle.pawk_tables.specs.Layout.{Header, header_lines, Section, file, part, kept, Spells}
use Rattle.pawk_tables.specs.declared.section.ReadSection.{ReadSection}
use Rattle.pawk_tables.specs.declared.section.ReadSection.TheVariants as lent
use Rattle.pawk_tables.specs.Views.{section_of}

-- ---- lines in front of bytes

-- the bytes begin with the lines, and `rest` follows
pub record BeginsLines (bytes : List ℕ) (ls : List Line) (rest : List ℕ) : Type 0 where
  pub lines : All IsLine ls
  pub front : bytes ≡ all_bytes ls ++ rest

-- no line begins the bytes
abbrev pub HasNoLine : List ℕ → Type 0
HasNoLine bytes = (l : Line) (rest : List ℕ) → ¬ BeginsLine bytes l rest

-- ---- the header

abbrev pub is_assign_line : Line → Bool
is_assign_line (lines.assign name value) = true
is_assign_line _ = false

-- a line begins the bytes that is no assignment
pub record BeginsNoAssignment (bytes : List ℕ) : Type 0 where
  pub line : Line
  pub rest : List ℕ
  pub begins : BeginsLine bytes line rest
  pub other : is_assign_line line ≡ false

-- the bytes begin with the header, all of it, and `rest` follows
pub record IsHeaderInFront (bytes : List ℕ) (h : Header) (rest : List ℕ) : Type 0 where
  pub begins : BeginsLines bytes (header_lines h) rest
  pub next : BeginsNoAssignment rest

-- ---- the sections

-- what comes next after a header or a section: one more section, or the number of records, after which nothing comes
pub data Item : Type 0 where
  section : Section → Item
  records : ℕ → Item

-- what follows the lines of a section. Where it has marks, the next line is no mark, so it has all of them.
abbrev pub Follows : Section → List ℕ → Type 0
Follows (file name) rest = Unit {0}
Follows (part count output table) rest = BeginsOtherLine rest
Follows (kept fnr bytes) rest = Unit {0}

-- the bytes begin with the section, all of it, and `rest` follows
pub record IsSectionInFront (scalars arrays : ℕ) (bytes : List ℕ) (s : Section) (rest : List ℕ) : Type 0 where
  pub spelling : List Line
  pub spelled : Spells scalars arrays s spelling
  pub begins : BeginsLines bytes spelling rest
  pub next : Follows s rest

-- the bytes begin with what a part wrote and noted, all of it, and `rest` follows
pub record IsPartAfter (scalars arrays : ℕ) (bytes output : List ℕ) (table : Table) (rest : List ℕ) : Type 0 where
  pub marks : List Line
  pub say : SayTable scalars arrays marks table
  pub begins : BeginsLines bytes (lines.output output ∷ marks) rest
  pub next : BeginsOtherLine rest

abbrev pub IsInFront : ℕ → ℕ → List ℕ → Item → List ℕ → Type 0
IsInFront scalars arrays bytes (section s) rest = IsSectionInFront scalars arrays bytes s rest
IsInFront scalars arrays bytes (records count) rest = BeginsLine bytes (lines.records count) rest × (rest ≡ [])

-- the bytes are these sections and the number of records, where each is read in its turn
abbrev pub AreInTurn : ℕ → ℕ → List ℕ → List Section → ℕ → Type 0
AreInTurn scalars arrays bytes [] count = IsInFront scalars arrays bytes (records count) []
AreInTurn scalars arrays bytes (s ∷ ss) count =
    (rest : List ℕ) × IsInFront scalars arrays bytes (section s) rest × AreInTurn scalars arrays rest ss count

-- what the code read
abbrev pub item_of : ReadSection → Item
item_of (lent.Section s) = section (section_of s)
item_of (lent.Records count) = records count
