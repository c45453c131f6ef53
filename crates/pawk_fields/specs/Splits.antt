-- The fields of a record as ranges of it, each a begin and an end counted from 0.
-- POSIX.1-2017, awk, "Variables and Special Variables" (FS).
use Rattle.std.specs.Prelude.{◌≡◌, ◌⊎◌, ℕ, ◌+◌, ◌<◌, ◌≤◌, Bool, true, ◌==◌, ◌||◌, ◌&&◌}
use Rattle.std.specs.Prelude.{if◌then◌else◌, List, [], ◌∷◌, Option, None, Some, length, drop}
use Rattle.std.specs.Prelude.{slice_index, slice_range}
use Rattle.pawk_value.specs.Bytes.{is_blank}

-- ---- one byte separates

-- the test that a byte separates: it is `separator`, or in paragraph mode a newline
abbrev pub separates : ℕ → Bool → ℕ → Bool
separates separator paragraph b = (b == separator) || (paragraph && (b == 10))

-- The ranges of the pieces between the bytes that pass the test, in bytes that begin at place `at`;
-- the first piece begins at `start`.
abbrev pub pieces_from : (ℕ → Bool) → ℕ → ℕ → List ℕ → List (ℕ × ℕ)
pieces_from test start at [] = (start, at) ∷ []
pieces_from test start at (b ∷ s) =
    if test b then (start, at) ∷ pieces_from test (at + 1) (at + 1) s
    else pieces_from test start (at + 1) s

-- those of s from a place on; from no place on there are none
abbrev pub pieces_after : ℕ → Bool → List ℕ → Option ℕ → List (ℕ × ℕ)
pieces_after separator paragraph s None = []
pieces_after separator paragraph s (Some p) =
    pieces_from (separates separator paragraph) p p (drop p s)

-- ---- blanks separate

-- The ranges of the runs of bytes that are no blanks, in bytes that begin at place `at`, where
-- the first run may have begun before.
abbrev pub words_from : Option ℕ → ℕ → List ℕ → List (ℕ × ℕ)
words_from None at [] = []
words_from (Some start) at [] = (start, at) ∷ []
words_from None at (b ∷ s) =
    if is_blank b then words_from None (at + 1) s else words_from (Some at) (at + 1) s
words_from (Some start) at (b ∷ s) =
    if is_blank b then (start, at) ∷ words_from None (at + 1) s
    else words_from (Some start) (at + 1) s

-- ---- laws

-- no byte of s from place i up to place j passes the test
abbrev pub NonePass : (ℕ → Bool) → List ℕ → ℕ → ℕ → Type 0
NonePass test s i j = (k : ℕ) → i ≤ k → k < j → test (slice_index s k) ≡ true → ⊥

-- The ranges are the pieces of s from place `from` on: each holds no byte that passes the test, ends
-- at the end or before one that does, and the next one begins after that byte.
abbrev pub ArePieces : (ℕ → Bool) → List ℕ → ℕ → List (ℕ × ℕ) → Type 0
ArePieces test s from [] = ⊥
ArePieces test s from (f ∷ fs) =
    (f.0 ≡ from) × (f.0 ≤ f.1) × NonePass test s f.0 f.1
    × (((f.1 ≡ length s) × (fs ≡ []))
    ⊎ ((f.1 < length s) × (test (slice_index s f.1) ≡ true) × ArePieces test s (f.1 + 1) fs))

-- a record is cut into pieces in one way alone
abbrev pub PiecesLaw : (ℕ → Bool) → List ℕ → Type 0
PiecesLaw test s =
    ArePieces test s 0 (pieces_from test 0 0 s)
    × ((fs : List (ℕ × ℕ)) → ArePieces test s 0 fs → fs ≡ pieces_from test 0 0 s)

-- the bytes of a range
abbrev pub bytes_of : List ℕ → ℕ × ℕ → List ℕ
bytes_of s f = slice_range s f.0 f.1
