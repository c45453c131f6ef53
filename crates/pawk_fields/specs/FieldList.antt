-- The fields of a record by any FS, as a function: ranges of it, each a begin and an end counted from 0.
-- POSIX.1-2017, awk, "Variables and Special Variables" (FS, RS) and "Regular Expressions".
use Rattle.std.specs.Prelude.{ℕ, ◌+◌, ◌==◌, ◌&&◌, Bool, Option, Some, None, Result, Ok, Err, List, [], ◌∷◌, nat_lt, if◌then◌else◌}
use Rattle.pawk_ere_syntax.specs.Pattern.{Pattern}
use Rattle.pawk_ere_automaton.specs.Expand.{expand}
use Rattle.pawk_ere_automaton.specs.Regex.{Regex}
use Rattle.pawk_value.specs.declared.faults.Fault.{Fault}
use Rattle.pawk_value.specs.declared.faults.Fault.TheVariants.{Fs, Ere}
use Rattle.pawk_fields.specs.FieldSeparator.{ranges_by}
use Rattle.pawk_fields.specs.FieldsOf.{separator_of}
use Rattle.pawk_fields.specs.ReadEre.{read_ere}
use Rattle.pawk_fields.specs.Search.{longest_end}

-- the end of a match that is not empty, or else another
abbrev pub end_beyond : ℕ → Option ℕ → Option ℕ → Option ℕ
end_beyond place (Some end) other = if nat_lt place end then Some end else other
end_beyond place None other = other

-- the end of a newline that separates, as it does in paragraph mode
abbrev pub newline_end : Bool → ℕ → List ℕ → Option ℕ
newline_end paragraph place [] = None
newline_end paragraph place (b ∷ rest) = if paragraph && (b == 10) then Some (place + 1) else None

-- the end of the longest separator that starts at a place: a match that is not empty, or a newline
unfoldable pub separator_end : Regex → Bool → ℕ → List ℕ → Option ℕ
separator_end e paragraph place rest = end_beyond place (longest_end e place rest) (newline_end paragraph place rest)

-- a field up to the separator that starts here, and those after it; or else the field goes on
abbrev pub cut_or_on : ℕ → ℕ → (ℕ → List (ℕ × ℕ)) → Option ℕ → List (ℕ × ℕ)
cut_or_on begin place go (Some next) = (begin, place) ∷ go next
cut_or_on begin place go None = go begin

-- The fields from one on that begins at `begin`, where the text goes on so from `place` on; before `begin` is
-- the rest of a separator.
unfoldable pub fields_after : Regex → Bool → ℕ → ℕ → List ℕ → List (ℕ × ℕ)
fields_after e paragraph begin place [] = (begin, place) ∷ []
fields_after e paragraph begin place (b ∷ rest) =
    if nat_lt place begin then fields_after e paragraph begin (place + 1) rest
    else cut_or_on begin place (λ next. fields_after e paragraph next (place + 1) rest) (separator_end e paragraph place (b ∷ rest))

-- the fields between the matches of an expression, if there is one
abbrev pub fields_between : Option Pattern → Bool → List ℕ → Result (List (ℕ × ℕ)) Fault
fields_between None paragraph s = Err Ere
fields_between (Some e) paragraph s = Ok (fields_after (expand e) paragraph 0 0 s)

-- The fields of a record by an FS, or the fault. An empty record has none, whatever FS is; an empty FS is a fault; an FS
-- of more than one byte is an expression.
unfoldable pub fields_of : List ℕ → Bool → List ℕ → Result (List (ℕ × ℕ)) Fault
fields_of fs paragraph [] = Ok []
fields_of [] paragraph (b ∷ s) = Err Fs
fields_of (c ∷ []) paragraph (b ∷ s) = Ok (ranges_by (separator_of c paragraph) (b ∷ s))
fields_of (c ∷ d ∷ fs) paragraph (b ∷ s) = fields_between (read_ere (c ∷ d ∷ fs)) paragraph (b ∷ s)
