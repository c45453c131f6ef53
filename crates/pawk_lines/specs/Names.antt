-- The names with which lines and marks begin.
use Rattle.std.specs.Prelude.{ℕ, List, [], ◌∷◌, codes}
use Rattle.pawk_words.specs.declared.word.Gap.{Gap}
use Rattle.pawk_words.specs.declared.word.Gap.TheVariants.{Newline}
use Rattle.pawk_words.specs.Words.{Word, name, written_all}
use Rattle.pawk_lines.specs.declared.name.Name.{Name}
use Rattle.pawk_lines.specs.declared.name.Name.TheVariants as names
use Rattle.pawk_lines.specs.declared.name.NumberLine.{NumberLine}
use Rattle.pawk_lines.specs.declared.name.NumberLine.TheVariants as number_line
use Rattle.pawk_lines.specs.declared.name.TextLine.{TextLine}
use Rattle.pawk_lines.specs.declared.name.TextLine.TheVariants as text_line
use Rattle.pawk_lines.specs.declared.name.MarkName.{MarkName}
use Rattle.pawk_lines.specs.declared.name.MarkName.TheVariants as mark_name
use Rattle.pawk_lines.specs.Lines.{Line, format, program, budget, before, file, part, output, array, records, end, named}

abbrev pub number_line_words : NumberLine → List (Word × Gap)
number_line_words number_line.Format = named (codes "pawk") ∷ named (codes "table") ∷ []
number_line_words number_line.Budget = named (codes "budget") ∷ []
number_line_words number_line.Before = named (codes "before") ∷ []
number_line_words number_line.Part = named (codes "part") ∷ []
number_line_words number_line.Array = named (codes "array") ∷ []
number_line_words number_line.Records = named (codes "records") ∷ []

abbrev pub text_line_words : TextLine → List (Word × Gap)
text_line_words text_line.Program = named (codes "program") ∷ []
text_line_words text_line.File = named (codes "file") ∷ []
text_line_words text_line.Output = named (codes "output") ∷ []
text_line_words text_line.End = named (codes "end") ∷ []

abbrev pub mark_name_words : MarkName → List (Word × Gap)
mark_name_words mark_name.Added = named (codes "add") ∷ []
mark_name_words mark_name.Sum = named (codes "sum") ∷ []
mark_name_words mark_name.Unset = (name (codes "unset"), Newline) ∷ []
mark_name_words mark_name.Number = named (codes "number") ∷ []
mark_name_words mark_name.Text = named (codes "text") ∷ []
mark_name_words mark_name.Maybe = named (codes "maybe") ∷ []
mark_name_words mark_name.Created = (name (codes "created"), Newline) ∷ []

-- the words of a name
abbrev pub name_words : Name → List (Word × Gap)
name_words (names.Number line) = number_line_words line
name_words (names.Text line) = text_line_words line
name_words names.Assign = named (codes "assign") ∷ []
name_words names.Shard = named (codes "shard") ∷ []
name_words names.Scalar = named (codes "scalar") ∷ []
name_words names.Element = named (codes "key") ∷ []
name_words names.Last = named (codes "last") ∷ []
name_words (names.Mark mark) = mark_name_words mark

abbrev pub spelling : Name → List ℕ
spelling n = written_all (name_words n)

-- the line of a number, and that of a text
abbrev pub number_line_of : NumberLine → ℕ → Line
number_line_of number_line.Format n = format n
number_line_of number_line.Budget n = budget n
number_line_of number_line.Before n = before n
number_line_of number_line.Part n = part n
number_line_of number_line.Array n = array n
number_line_of number_line.Records n = records n

abbrev pub text_line_of : TextLine → List ℕ → Line
text_line_of text_line.Program t = program t
text_line_of text_line.File t = file t
text_line_of text_line.Output t = output t
text_line_of text_line.End t = end t
