-- What writing says of the bytes, step by step.
use Rattle.std.specs.Prelude.{◌≡◌, ◌≢◌, ℕ, List, ◌++◌, Option, Some, None, slice_set}
use Rattle.std.specs.List.{All, AllPass}
use Rattle.std.specs.Option.{option_or}
use Rattle.pawk_keyed_map.specs.Keyed.{Rise, found}
use Rattle.pawk_words.specs.Words.{IsWord, number}
use Rattle.pawk_world.specs.Worlds.{Cell}
use Rattle.pawk_frozen.specs.Marks.{Mark, Marks, Table, blank, summed, last_put, created, with_mark}
use Rattle.pawk_lines.specs.Lines.{Line, IsLine}
use Rattle.pawk_parts.specs.Parts.{Noted, all_bytes, all_noted, is_mark_line}

-- mark lines, each of which can be written, that say this after what was said before
pub record Say (ls : List Line) (before after : Noted) : Type 0 where
  pub lines : All IsLine ls
  pub mark_lines : AllPass is_mark_line ls
  pub said : all_noted ls before ≡ Some after

-- lines that say this were appended
pub record Appends (old new : List ℕ) (before after : Noted) : Type 0 where
  pub lines : List Line
  pub say : Say lines before after
  pub bytes : new ≡ old ++ all_bytes lines

-- lines were appended after which this is the table
abbrev pub AppendsTable : List ℕ → List ℕ → Noted → Table → Type 0
AppendsTable old new before table = (array : Option ℕ) × Appends old new before (record { array = array; table = table })

-- with this mark of a cell
abbrev pub with_noted : Cell → Mark → Noted → Noted
with_noted c m n = record n { table = with_mark c m n.table }

-- with these marks of all scalars
abbrev pub with_scalars : List Mark → Noted → Noted
with_scalars ms n = record n { table = record n.table { scalars = ms } }

-- with these marks of an array
abbrev pub with_array : ℕ → Marks → Noted → Noted
with_array slot ms n = record n { table = record n.table { arrays = slice_set n.table.arrays slot ms } }

-- all marks of an array are those that are left, and those that are done, of other keys
pub record AreAll (all left done : Marks) : Type 0 where
  pub each : (key : List ℕ) → found key all ≡ option_or (found key left) (found key done)
  pub apart : (key : List ℕ) → found key left ≢ None → found key done ≡ None
  pub rise_done : Rise done
  pub rise_all : Rise left → Rise all

-- ---- what no line says

-- a line may say the mark: a text that is held is never too long for one
abbrev pub MayBeSaid : Mark → Type 0
MayBeSaid blank = ⊥
MayBeSaid (summed total least greatest) = IsWord (number total) × IsWord (number least) × IsWord (number greatest)
MayBeSaid (last_put value) = Unit {0}
MayBeSaid created = Unit {0}

-- lines may leave a scalar with the mark
abbrev pub MayBeLeft : Mark → Type 0
MayBeLeft blank = Unit {0}
MayBeLeft (summed total least greatest) = MayBeSaid (summed total least greatest)
MayBeLeft (last_put value) = Unit {0}
MayBeLeft created = Unit {0}

-- an element has a mark that no line says
pub record HasUnsaid (marks : Marks) : Type 0 where
  pub key : List ℕ
  pub mark : Mark
  pub has : found key marks ≡ Some mark
  pub unsaid : ¬ MayBeSaid mark
