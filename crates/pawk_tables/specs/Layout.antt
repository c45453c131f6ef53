-- The layout of table files. The lines of a file, in their order:
--
--   pawk table 1           the format
--   program TEXT           the text of the program
--   budget N               the steps that each part of the run may take
--   assign NAME VALUE      any number: what is assigned before BEGIN
--   shard K L OF           at most one: the numbers of the first and the last shard, and of how many
--   before N               how many records the shards before this one have
--   assign NAME VALUE      any number: what is assigned after BEGIN, before the first file
--
--   sections, in any order and number:
--   file NAME              the records that follow are of this file
--   part N                 so many records were run apart: `output TEXT` follows, and the lines of what they noted
--   last FNR BYTES         records that are run in their order later: how many of their file came before, and their bytes
--
--   records N              how many records the shard has
--   end DIGEST             the SHA-256 of all bytes before this line
use Rattle.std.specs.Prelude.{◌≡◌, ℕ, List, [], ◌∷◌, ◌++◌, map, All, Option, Some, None}
use Rattle.sha2.specs.Sha256.{sha256}
use Rattle.hex.specs.Hex.{encode_lower}
use Rattle.pawk_frozen.specs.Marks.{Table}
use Rattle.pawk_lines.specs.Lines.{Line, IsLine, line_bytes}
use Rattle.pawk_lines.specs.Lines as lines
use Rattle.pawk_parts.specs.Parts.{all_bytes, SayTable}

-- ---- the header

-- names and what they are assigned, in their order
abbrev pub Pairs : Type 0
Pairs = List (List ℕ × List ℕ)

pub record Header : Type 0 where
  -- the text of the program
  pub program : List ℕ
  -- the steps that each part of the run may take
  pub budget : ℕ
  -- what is assigned before BEGIN
  pub assignments : Pairs
  -- the numbers of the first and the last shard, and of how many, where they are some of several
  pub shard : Option (ℕ × ℕ × ℕ)
  -- how many records the shards before this one have
  pub before : ℕ
  -- what is assigned after BEGIN, before the first file
  pub first : Pairs

abbrev pub assign_lines : Pairs → List Line
assign_lines pairs = map (λ p. lines.assign p.0 p.1) pairs

abbrev pub shard_lines : Option (ℕ × ℕ × ℕ) → List Line
shard_lines None = []
shard_lines (Some p) = lines.shard p.0 p.1 p.2 ∷ []

-- the format, the program and its budget
abbrev pub program_lines : List ℕ → ℕ → List Line
program_lines program budget = lines.format 1 ∷ lines.program program ∷ lines.budget budget ∷ []

-- where the shards lie
abbrev pub place_lines : Option (ℕ × ℕ × ℕ) → ℕ → List Line
place_lines shard before = shard_lines shard ++ lines.before before ∷ []

abbrev pub header_lines : Header → List Line
header_lines h = program_lines h.program h.budget ++ (assign_lines h.assignments ++ (place_lines h.shard h.before ++ assign_lines h.first))

-- ---- the sections

pub data Section : Type 0 where
  -- the records that follow are of the file of this name
  file : List ℕ → Section
  -- so many records were run apart: what they wrote, and what they noted of the globals
  part : ℕ → List ℕ → Table → Section
  -- records that are run in their order later: how many of their file came before them, and their bytes
  kept : ℕ → List ℕ → Section

-- the lines are those of the section, with a table of so many scalars and arrays
abbrev pub Spells : ℕ → ℕ → Section → List Line → Type 0
Spells scalars arrays (file name) ls = ls ≡ lines.file name ∷ []
Spells scalars arrays (part count output table) ls =
    (marks : List Line) × SayTable scalars arrays marks table × (ls ≡ lines.part count ∷ lines.output output ∷ marks)
Spells scalars arrays (kept fnr bytes) ls = ls ≡ lines.last fnr bytes ∷ []

-- the lines are those of the sections, one after the other
abbrev pub AllSpell : ℕ → ℕ → List Section → List Line → Type 0
AllSpell scalars arrays [] ls = ls ≡ []
AllSpell scalars arrays (s ∷ ss) ls =
    (front : List Line) × (rest : List Line) × Spells scalars arrays s front × AllSpell scalars arrays ss rest × (ls ≡ front ++ rest)

-- ---- the file

-- all lines but the last one
abbrev pub body_lines : Header → List Line → ℕ → List Line
body_lines header sections count = header_lines header ++ (sections ++ lines.records count ∷ [])

-- the bytes are a header, these sections and the number of records
pub record IsBody (scalars arrays : ℕ) (bytes : List ℕ) (header : Header) (sections : List Section) (count : ℕ) : Type 0 where
  pub middle : List Line
  pub spelled : AllSpell scalars arrays sections middle
  pub lines : All IsLine (body_lines header middle count)
  pub whole : bytes ≡ all_bytes (body_lines header middle count)

-- the SHA-256 of the bytes, in hexadecimal digits
abbrev pub digest_text : List ℕ → List ℕ
digest_text bytes = encode_lower (sha256 bytes)

-- the last line of a file with this body
abbrev pub end_bytes : List ℕ → List ℕ
end_bytes body = line_bytes (lines.end (digest_text body))

pub record IsTableFile (scalars arrays : ℕ) (bytes : List ℕ) (header : Header) (sections : List Section) (count : ℕ) : Type 0 where
  pub body : List ℕ
  pub is : IsBody scalars arrays body header sections count
  pub whole : bytes ≡ body ++ end_bytes body
