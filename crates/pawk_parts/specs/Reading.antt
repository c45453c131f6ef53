-- What reading says of the bytes, step by step.
use Rattle.std.specs.Prelude.{◌≡◌, ℕ, true, List, take, drop, Some, None}
use Rattle.pawk_lines.specs.Lines.{Line, BeginsLine}
use Rattle.pawk_lines.specs.Reading.{IsInFront}
use Rattle.pawk_parts.specs.declared.read.Reader.{Reader}
use Rattle.pawk_parts.specs.Parts.{Noted, noted, is_mark_line, all_bytes, BeginsOtherLine}
use Rattle.pawk_parts.specs.Writing.{Say}

-- what the lines said that a reader read
abbrev pub noted_by : Reader → Noted
noted_by r = record { array = r.array; table = r.table }

-- a mark line takes the first `count` bytes, and says this after what was said before
pub record SaysMark (bytes : List ℕ) (before after : Noted) (count : ℕ) : Type 0 where
  pub line : Line
  pub front : IsInFront bytes line count
  pub mark : is_mark_line line ≡ true
  pub said : noted line before ≡ Some after

-- what a line begins the bytes with, if one does, is a mark line that says nothing after what was said before
abbrev pub SayNothing : List ℕ → Noted → Type 0
SayNothing bytes before = (l : Line) (rest : List ℕ) → BeginsLine bytes l rest → (is_mark_line l ≡ true) × (noted l before ≡ None)

-- the first `count` bytes are lines that say this, and a line follows that is no mark line
pub record SayUpTo (bytes : List ℕ) (before after : Noted) (count : ℕ) : Type 0 where
  pub lines : List Line
  pub say : Say lines before after
  pub front : take count bytes ≡ all_bytes lines
  pub ends : BeginsOtherLine (drop count bytes)
