-- Lines of a text (XBD 3.206, Line), and line ends of two bytes.
use Rattle.std.specs.Prelude.{ℕ, Bool, true, false, ◌+◌, ◌==◌, ◌&&◌, if◌then◌else◌, List, [], ◌∷◌}
use Rattle.std.specs.Prelude.{nat_lt, count_by}
use Rattle.std.specs.List.{suffix_len}

abbrev pub is_newline : ℕ → Bool
is_newline b = b == 10

-- every byte but newline
abbrev pub is_in_line : ℕ → Bool
is_in_line b = if b == 10 then false else true

-- the line, counted from 1, of the byte that follows these: one more than the newlines before it
abbrev pub line_after : List ℕ → ℕ
line_after before = 1 + count_by is_newline before

-- its column, counted from 1: one more than the bytes since the last newline
abbrev pub column_after : List ℕ → ℕ
column_after before = 1 + suffix_len is_in_line before

-- whether a text begins with a newline
abbrev pub begins_with_newline : List ℕ → Bool
begins_with_newline [] = false
begins_with_newline (b ∷ s) = b == 10

-- whether this byte is a carriage return that is left out: a newline follows it
abbrev pub is_left_out : ℕ → List ℕ → Bool
is_left_out b s = (b == 13) && begins_with_newline s

-- a text with each CR LF read as LF
abbrev pub lines_as_lf : List ℕ → List ℕ
lines_as_lf [] = []
lines_as_lf (b ∷ s) = if is_left_out b s then lines_as_lf s else b ∷ lines_as_lf s

-- The places, in the text that is read, of the newlines before which a carriage return was left out; the
-- first byte has place n.
abbrev pub omissions : ℕ → List ℕ → List ℕ
omissions n [] = []
omissions n (b ∷ s) = if is_left_out b s then n ∷ omissions n s else omissions (n + 1) s

-- the place, in the bytes of the files, of a place of the text, where carriage returns were left out at
-- these places
abbrev pub place_in_files : List ℕ → ℕ → ℕ
place_in_files left_out place = place + count_by (λ d. nat_lt d place) left_out
