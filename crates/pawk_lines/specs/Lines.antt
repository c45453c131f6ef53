-- The lines of table files, and how they are written, to the byte.
use Rattle.std.specs.Prelude.{◌≡◌, ◌≤◌, ◌<◌, ◌^◌, ℕ, ℤ, pos, List, [], ◌∷◌, ◌++◌, length, codes}
use Rattle.pawk_words.specs.declared.word.Gap.{Gap}
use Rattle.pawk_words.specs.declared.word.Gap.TheVariants.{Space, Newline}
use Rattle.pawk_words.specs.Words.{Word, name, number, text, IsWord, written_all, size_limit}
use Rattle.pawk_value.specs.Range.{FitsWord}
use Rattle.pawk_value.specs.Value.{Val, Uninit, Num, Text, Maybe, lent_value}
use Rattle.pawk_lines.specs.declared.line.Line.{Line as Lent}
use Rattle.pawk_lines.specs.declared.line.Line.TheVariants as lent
use Rattle.pawk_lines.specs.declared.line.Mark.{Mark as LentMark}
use Rattle.pawk_lines.specs.declared.line.Mark.TheVariants as lent_mark

-- ---- lines

-- what a part noted of a cell: the sum of amounts, which is each prefix sum, too; a sum with its least and greatest
-- prefix sum; a value; or nothing more than that the cell was created
pub data Mark : Type 0 where
  added : ℤ → Mark
  sum : ℤ → ℤ → ℤ → Mark
  put : Val → Mark
  created : Mark

pub data Line : Type 0 where
  format : ℕ → Line
  program : List ℕ → Line
  budget : ℕ → Line
  assign : List ℕ → List ℕ → Line
  shard : ℕ → ℕ → ℕ → Line
  before : ℕ → Line
  file : List ℕ → Line
  part : ℕ → Line
  output : List ℕ → Line
  scalar : ℕ → Mark → Line
  array : ℕ → Line
  element : List ℕ → Mark → Line
  last : ℕ → List ℕ → Line
  records : ℕ → Line
  end : List ℕ → Line

-- the mark that a mark of the program shows
abbrev pub shown_mark : LentMark → Mark
shown_mark (lent_mark.Added total) = added total
shown_mark (lent_mark.Sum total least greatest) = sum total least greatest
shown_mark (lent_mark.Put value) = put (lent_value value)
shown_mark lent_mark.Created = created

-- the line that a line of the program shows
abbrev pub shown : Lent → Line
shown (lent.Format n) = format n
shown (lent.Program t) = program t.now
shown (lent.Budget n) = budget n
shown (lent.Assign variable value) = assign variable.now value.now
shown (lent.Shard n m of) = shard n m of
shown (lent.Before n) = before n
shown (lent.File t) = file t.now
shown (lent.Part n) = part n
shown (lent.Output t) = output t.now
shown (lent.Scalar slot mark) = scalar slot (shown_mark mark)
shown (lent.Array slot) = array slot
shown (lent.Element key mark) = element key.now (shown_mark mark)
shown (lent.Last fnr bytes) = last fnr bytes.now
shown (lent.Records n) = records n
shown (lent.End t) = end t.now

-- ---- which lines can be written

-- a number of 64 bits without a sign
abbrev pub IsCount : ℕ → Type 0
IsCount n = n < 2 ^ 64

abbrev pub IsText : List ℕ → Type 0
IsText t = length t ≤ size_limit

abbrev pub IsValue : Val → Type 0
IsValue Uninit = Unit {0}
IsValue (Num z) = FitsWord z
IsValue (Text t) = IsText t
IsValue (Maybe t) = IsText t

abbrev pub IsMark : Mark → Type 0
IsMark (added total) = IsWord (number total)
IsMark (sum total least greatest) = IsWord (number total) × IsWord (number least) × IsWord (number greatest)
IsMark (put value) = IsValue value
IsMark created = Unit {0}

abbrev pub IsLine : Line → Type 0
IsLine (format n) = IsCount n
IsLine (program t) = IsText t
IsLine (budget n) = IsCount n
IsLine (assign variable value) = IsText variable × IsText value
IsLine (shard n m of) = IsCount n × IsCount m × IsCount of
IsLine (before n) = IsCount n
IsLine (file t) = IsText t
IsLine (part n) = IsCount n
IsLine (output t) = IsText t
IsLine (scalar slot mark) = IsCount slot × IsMark mark
IsLine (array slot) = IsCount slot
IsLine (element key mark) = IsText key × IsMark mark
IsLine (last fnr bytes) = IsCount fnr × IsText bytes
IsLine (records n) = IsCount n
IsLine (end t) = IsText t

-- ---- how they are written

-- the name and the space after it
abbrev pub named : List ℕ → Word × Gap
named letters = (name letters, Space)

abbrev pub count : ℕ → Word
count n = number (pos n)

abbrev pub value_words : Val → List (Word × Gap)
value_words Uninit = (name (codes "unset"), Newline) ∷ []
value_words (Num z) = named (codes "number") ∷ (number z, Newline) ∷ []
value_words (Text t) = named (codes "text") ∷ (text t, Newline) ∷ []
value_words (Maybe t) = named (codes "maybe") ∷ (text t, Newline) ∷ []

abbrev pub mark_words : Mark → List (Word × Gap)
mark_words (added total) = named (codes "add") ∷ (number total, Newline) ∷ []
mark_words (sum total least greatest) = named (codes "sum") ∷ (number total, Space) ∷ (number least, Space) ∷ (number greatest, Newline) ∷ []
mark_words (put value) = value_words value
mark_words created = (name (codes "created"), Newline) ∷ []

abbrev pub line_words : Line → List (Word × Gap)
line_words (format n) = named (codes "pawk") ∷ named (codes "table") ∷ (count n, Newline) ∷ []
line_words (program t) = named (codes "program") ∷ (text t, Newline) ∷ []
line_words (budget n) = named (codes "budget") ∷ (count n, Newline) ∷ []
line_words (assign variable value) = named (codes "assign") ∷ (text variable, Space) ∷ (text value, Newline) ∷ []
line_words (shard n m of) = named (codes "shard") ∷ (count n, Space) ∷ (count m, Space) ∷ (count of, Newline) ∷ []
line_words (before n) = named (codes "before") ∷ (count n, Newline) ∷ []
line_words (file t) = named (codes "file") ∷ (text t, Newline) ∷ []
line_words (part n) = named (codes "part") ∷ (count n, Newline) ∷ []
line_words (output t) = named (codes "output") ∷ (text t, Newline) ∷ []
line_words (scalar slot mark) = named (codes "scalar") ∷ (count slot, Space) ∷ mark_words mark
line_words (array slot) = named (codes "array") ∷ (count slot, Newline) ∷ []
line_words (element key mark) = named (codes "key") ∷ (text key, Space) ∷ mark_words mark
line_words (last fnr bytes) = named (codes "last") ∷ (count fnr, Space) ∷ (text bytes, Newline) ∷ []
line_words (records n) = named (codes "records") ∷ (count n, Newline) ∷ []
line_words (end t) = named (codes "end") ∷ (text t, Newline) ∷ []

abbrev pub line_bytes : Line → List ℕ
line_bytes l = written_all (line_words l)

-- the bytes begin with the line, and `rest` follows
pub record BeginsLine (bytes : List ℕ) (l : Line) (rest : List ℕ) : Type 0 where
  pub line : IsLine l
  pub front : bytes ≡ line_bytes l ++ rest
