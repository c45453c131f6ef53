-- The record and its fields.
-- POSIX.1-2017, awk, "Variables and Special Variables" (NF, FS, OFS), "Expressions in awk", "Input Files".
use Rattle.std.specs.Prelude.{ℕ, zero, suc, ◌-◌, ◌≤◌, ◌++◌, Bool, if◌then◌else◌, nat_le, min, List, [], ◌∷◌, Option, Some, None, Result, Ok, Err, slice_get, slice_set, replicate, length, map}
use Rattle.pawk_value.specs.Conversion.{text_of}
use Rattle.pawk_value.specs.Limits.{length_limit}
use Rattle.pawk_value.specs.Value.{Val, Uninit, Maybe}
use Rattle.pawk_value.specs.declared.faults.Fault.{Fault}
use Rattle.pawk_value.specs.declared.faults.Fault.TheVariants.{Field, Length}
use Rattle.pawk_fields.specs.Splits.{bytes_of}
use Rattle.pawk_fields.specs.FieldList.{fields_of}
use Rattle.pawk_record.specs.Limits.{greatest_field}

-- the text of `$0`, and the values of `$1`, `$2` and so on, as many as NF
pub record Record : Type 0 where
  pub text : List ℕ
  pub fields : List Val

abbrev pub value_or_uninit : Option Val → Val
value_or_uninit None = Uninit
value_or_uninit (Some v) = v

-- the value of a field: field 0 is the record, and past the last one there is none
abbrev pub field_at : Record → ℕ → Val
field_at r zero = Maybe r.text
field_at r (suc n) = value_or_uninit (slice_get r.fields n)

-- ---- reading a record

-- what is in a range of the record, which came from outside
abbrev pub candidate : List ℕ → ℕ × ℕ → Val
candidate text f = Maybe (bytes_of text f)

abbrev pub record_or_fault : List ℕ → Result (List (ℕ × ℕ)) Fault → Record × Option Fault
record_or_fault text (Ok ranges) = (record { text = text; fields = map (candidate text) ranges }, None)
record_or_fault text (Err fault) = (record { text = text; fields = [] }, Some fault)

-- the record of a text by an FS; where that is no FS, a record without fields, and the fault
abbrev pub read : List ℕ → Bool → List ℕ → Record × Option Fault
read fs paragraph text = record_or_fault text (fields_of fs paragraph text)

-- ---- assignments

abbrev pub unless_fault : Record × Option Fault → Result Record Fault
unless_fault (r, None) = Ok r
unless_fault (r, Some fault) = Err fault

-- the record after the assignment of a text to `$0`; a fault leaves the record
abbrev pub with_text : List ℕ → Bool → List ℕ → Result Record Fault
with_text fs paragraph text = unless_fault (read fs paragraph text)

-- the texts of values, one before the first and another before each other one
abbrev pub joined_from : List ℕ → List ℕ → List Val → List ℕ
joined_from before ofs [] = []
joined_from before ofs (v ∷ vs) = before ++ (text_of v ++ joined_from ofs ofs vs)

-- the texts of values with OFS between them
unfoldable pub joined : List ℕ → List Val → List ℕ
joined ofs vs = joined_from [] ofs vs

-- at least n fields
abbrev pub padded : List Val → ℕ → List Val
padded vs n = vs ++ replicate (n - length vs) Uninit

-- the fields with one of them assigned
unfoldable pub with_value : ℕ → Val → List Val → List Val
with_value n v vs = slice_set (padded vs n) (n - 1) v

-- the record of fields, unless its text is too long
abbrev pub of_fields : List Val → List ℕ → Result Record Fault
of_fields vs text = if nat_le (length text) length_limit then Ok (record { text = text; fields = vs }) else Err Length

-- the record after the assignment of a value to a field from 1 on; a fault leaves the record
abbrev pub with_field : ℕ → Val → List ℕ → Record → Result Record Fault
with_field n v ofs r =
    if nat_le n greatest_field then of_fields (with_value n v r.fields) (joined ofs (with_value n v r.fields)) else Err Field

-- ---- what a record of the program shows

-- the record, and how many of its fields were looked for so far
pub record SplitRecord : Type 0 where
  pub record_now : Record
  pub found : ℕ

-- the field with this index may be lent, and so may those before it
abbrev pub IsPrepared : SplitRecord → ℕ → Type 0
IsPrepared r n = min n (length r.record_now.fields) ≤ r.found
