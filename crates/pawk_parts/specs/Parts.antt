-- What a part of the records noted of the globals, in lines: a line for each scalar and each element of which something was
-- noted; the elements of an array come after a line with its slot.
use Rattle.std.specs.Prelude.{◌≡◌, ℕ, nat_lt, Bool, true, false, not, ◌&&◌, if◌then◌else◌, List, [], ◌∷◌, length, take, drop, Option, Some, None}
use Rattle.std.specs.List.{All, AllPass, flat_map}
use Rattle.std.specs.Option.{option_and_then}
use Rattle.std.specs.Ordering.{int_eq}
use Rattle.pawk_world.specs.Worlds.{Cell}
use Rattle.pawk_world.specs.Worlds as cell
use Rattle.pawk_frozen.specs.Marks.{Table, blank_table, mark_at, with_mark}
use Rattle.pawk_frozen.specs.Marks as marks
use Rattle.pawk_lines.specs.Lines.{Line, IsLine, line_bytes, BeginsLine}
use Rattle.pawk_lines.specs.Lines as lines

-- the bytes of lines, one after the other
abbrev pub all_bytes : List Line → List ℕ
all_bytes ls = flat_map line_bytes ls

-- whether a line says what was noted
abbrev pub is_mark_line : Line → Bool
is_mark_line (lines.scalar slot m) = true
is_mark_line (lines.array slot) = true
is_mark_line (lines.element key m) = true
is_mark_line _ = false

abbrev pub mark_of : lines.Mark → marks.Mark
mark_of (lines.added total) = marks.summed total total total
mark_of (lines.sum total least greatest) = marks.summed total least greatest
mark_of (lines.put value) = marks.last_put value
mark_of lines.created = marks.created

-- whether no other mark says the same: a sum that is each sum on the way, too, is said by the mark of one number
abbrev pub is_only : lines.Mark → Bool
is_only (lines.sum total least greatest) = not (int_eq least total && int_eq greatest total)
is_only _ = true

abbrev pub is_blank : marks.Mark → Bool
is_blank marks.blank = true
is_blank _ = false

-- what some lines say: the slot of the array that the next keys are of, if there is one, and the table so far
pub record Noted : Type 0 where
  pub array : Option ℕ
  pub table : Table

-- a mark of a cell of which nothing was noted so far
abbrev pub with_new_mark : Cell → lines.Mark → Noted → Option Noted
with_new_mark c m n =
    if is_only m && is_blank (mark_at c n.table) then Some (record n { table = with_mark c (mark_of m) n.table }) else None

-- a key of the array of this slot, if there is one
abbrev pub with_new_key : Option ℕ → List ℕ → lines.Mark → Noted → Option Noted
with_new_key None key m n = None
with_new_key (Some slot) key m n = with_new_mark (cell.element slot key) m n

-- what one line more says; none where it says nothing: there is no such slot, no array for a key, a mark for the cell
-- before, or a mark that is said otherwise
abbrev pub noted : Line → Noted → Option Noted
noted (lines.scalar slot m) n = if nat_lt slot (length n.table.scalars) then with_new_mark (cell.scalar slot) m n else None
noted (lines.array slot) n = if nat_lt slot (length n.table.arrays) then Some (record n { array = Some slot }) else None
noted (lines.element key m) n = with_new_key n.array key m n
noted _ n = None

-- what the lines say after what was said before
abbrev pub all_noted : List Line → Noted → Option Noted
all_noted [] n = Some n
all_noted (l ∷ ls) n = option_and_then (all_noted ls) (noted l n)

-- nothing is said of so many scalars and arrays
abbrev pub nothing_noted : ℕ → ℕ → Noted
nothing_noted scalars arrays = record { array = None; table = blank_table scalars arrays }

abbrev pub table_in : Option Noted → Option Table
table_in None = None
table_in (Some n) = Some n.table

-- the table of so many scalars and arrays that lines say, if they say one
abbrev pub table_of : ℕ → ℕ → List Line → Option Table
table_of scalars arrays ls = table_in (all_noted ls (nothing_noted scalars arrays))

-- ---- tables that are written and read

-- mark lines, each of which can be written, that say this table of so many scalars and arrays
pub record SayTable (scalars arrays : ℕ) (ls : List Line) (table : Table) : Type 0 where
  pub lines : All IsLine ls
  pub mark_lines : AllPass is_mark_line ls
  pub said : table_of scalars arrays ls ≡ Some table

-- a line begins the bytes that is no mark line
pub record BeginsOtherLine (bytes : List ℕ) : Type 0 where
  pub line : Line
  pub rest : List ℕ
  pub begins : BeginsLine bytes line rest
  pub other : is_mark_line line ≡ false

-- the first `count` bytes are lines that say the table, and a line follows that is no mark line
pub record IsTableInFront (scalars arrays : ℕ) (bytes : List ℕ) (table : Table) (count : ℕ) : Type 0 where
  pub lines : List Line
  pub say : SayTable scalars arrays lines table
  pub front : take count bytes ≡ all_bytes lines
  pub ends : BeginsOtherLine (drop count bytes)
