-- The records of a file.
-- POSIX.1-2017, awk, "Input Files" and "Variables and Special Variables" (RS).
use Rattle.std.specs.Prelude.{◌⊎◌, ◌≢◌, ◌++◌, ◌≡◌, ℕ, ◌≤◌, Bool, true, false, ◌==◌, ◌&&◌}
use Rattle.std.specs.Prelude.{if◌then◌else◌, List, [], ◌∷◌, length}
use Rattle.std.specs.List.{onto_first}

-- ---- records that end at one byte

-- no byte of r is the separator
abbrev pub NoSeparator : ℕ → List ℕ → Type 0
NoSeparator separator [] = Unit {0}
NoSeparator separator (b ∷ r) = (b ≢ separator) × NoSeparator separator r

-- The bytes are the records, each followed by the separator, which no record holds.
-- Only the last may lack it, and then is not empty.
abbrev pub IsSpelledBy : ℕ → List ℕ → List (List ℕ) → Type 0
IsSpelledBy separator bytes [] = bytes ≡ []
IsSpelledBy separator bytes (r ∷ rs) =
    NoSeparator separator r
    × (((rs ≡ []) × (r ≢ []) × (bytes ≡ r))
    ⊎ ((rest : List ℕ) × (bytes ≡ r ++ separator ∷ rest) × IsSpelledBy separator rest rs))

-- the records of a file: each ends at the separator; a last one without it counts if it is not
-- empty
abbrev pub records : ℕ → List ℕ → List (List ℕ)
records separator [] = []
records separator (b ∷ s) =
    if b == separator then [] ∷ records separator s else onto_first b (records separator s)

-- ---- paragraphs: an empty RS

abbrev pub newline : ℕ
newline = 10

-- s is newlines
abbrev pub AllNewlines : List ℕ → Type 0
AllNewlines [] = Unit {0}
AllNewlines (b ∷ s) = (b ≡ newline) × AllNewlines s

-- after the byte `before`, s holds no two adjacent newlines, the byte before it counted, and its
-- last byte is no newline
abbrev pub GoesOn : ℕ → List ℕ → Type 0
GoesOn before [] = before ≢ newline
GoesOn before (b ∷ s) = ((before ≢ newline) ⊎ (b ≢ newline)) × GoesOn b s

-- r is not empty, neither begins nor ends with a newline, and holds no two adjacent ones
abbrev pub IsParagraph : List ℕ → Type 0
IsParagraph [] = ⊥
IsParagraph (b ∷ r) = (b ≢ newline) × GoesOn b r

-- The bytes are newlines, a paragraph, two or more newlines, a paragraph, .., a paragraph,
-- newlines; before the first paragraph there are `least` newlines at least.
abbrev pub IsParted : ℕ → List ℕ → List (List ℕ) → Type 0
IsParted least bytes [] = AllNewlines bytes
IsParted least bytes (r ∷ rs) =
    (gap rest : List ℕ) × (bytes ≡ gap ++ (r ++ rest)) × AllNewlines gap
    × (least ≤ length gap) × IsParagraph r × IsParted 2 rest rs

-- s ends, or goes on with a newline
abbrev pub ends_line : List ℕ → Bool
ends_line [] = true
ends_line (b ∷ s) = b == newline

-- the paragraphs of bytes; where the bytes begin inside one, the first is what is left of it
abbrev pub paragraphs_from : Bool → List ℕ → List (List ℕ)
paragraphs_from true [] = [] ∷ []
paragraphs_from false [] = []
paragraphs_from true (b ∷ s) =
    if (b == newline) && ends_line s then [] ∷ paragraphs_from false s
    else onto_first b (paragraphs_from true s)
paragraphs_from false (b ∷ s) =
    if b == newline then paragraphs_from false s else onto_first b (paragraphs_from true s)

-- newlines at both ends are taken away, and two or more of them separate
abbrev pub paragraphs : List ℕ → List (List ℕ)
paragraphs bytes = paragraphs_from false bytes

-- ---- by the bytes of RS, of which there is one or none

-- these are records of the bytes
abbrev pub AreRecords : List ℕ → List ℕ → List (List ℕ) → Type 0
AreRecords [] bytes parts = IsParted 0 bytes parts
AreRecords (separator ∷ rs) bytes parts = IsSpelledBy separator bytes parts

-- the records
abbrev pub records_by : List ℕ → List ℕ → List (List ℕ)
records_by [] bytes = paragraphs bytes
records_by (separator ∷ rs) bytes = records separator bytes

-- the bytes are cut into records in one way alone
abbrev pub RecordsLaw : List ℕ → List ℕ → Type 0
RecordsLaw rs bytes =
    AreRecords rs bytes (records_by rs bytes)
    × ((parts : List (List ℕ)) → AreRecords rs bytes parts → parts ≡ records_by rs bytes)
