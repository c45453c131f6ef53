-- The fields of a record by any FS, and what FS may be.
-- POSIX.1-2017, awk, "Variables and Special Variables" (FS, RS).
use Rattle.std.specs.Prelude.{◌≡◌, ℕ, ◌==◌, Bool, if◌then◌else◌, List, [], ◌∷◌, map, ◌++◌, length}
use Rattle.std.specs.declared.ops.Range.{Range}
use Rattle.pawk_ere_syntax.specs.Tokens.{SpellsNone}
use Rattle.pawk_value.specs.declared.faults.Fault.{Fault}
use Rattle.pawk_value.specs.declared.faults.Fault.TheVariants.{Fs, Ere}
use Rattle.pawk_value.specs.declared.faults.Stop.{Stop}
use Rattle.pawk_value.specs.declared.faults.Stop.TheVariants as stops
use Rattle.pawk_fields.specs.declared.separator.FieldSeparator.{FieldSeparator}
use Rattle.pawk_fields.specs.declared.separator.FieldSeparator.TheVariants.{Blanks, Byte, ByteOrNewline}
use Rattle.pawk_fields.specs.FieldSeparator.{ranges_by, range_of}
use Rattle.pawk_fields.specs.Between.{AreFieldsBetween}

-- what an FS of one byte separates by: a space by blanks, any other byte by itself, and in paragraph mode by newlines too
abbrev pub separator_of : ℕ → Bool → FieldSeparator
separator_of byte paragraph = if byte == 32 then Blanks else if paragraph then ByteOrNewline byte else Byte byte

-- The fields of a record by an FS. An empty record has none, whatever FS is; by an empty FS no list is right;
-- an FS of more than one byte is an expression.
abbrev pub AreFieldsOf : List ℕ → Bool → List ℕ → List (ℕ × ℕ) → Type 0
AreFieldsOf fs paragraph [] fields = fields ≡ []
AreFieldsOf [] paragraph (b ∷ s) fields = ⊥
AreFieldsOf (c ∷ []) paragraph (b ∷ s) fields = fields ≡ ranges_by (separator_of c paragraph) (b ∷ s)
AreFieldsOf (c ∷ d ∷ fs) paragraph (b ∷ s) fields = AreFieldsBetween (c ∷ d ∷ fs) paragraph (b ∷ s) fields

-- the fault where a record has no fields by an FS
abbrev pub IsFaultOf : List ℕ → List ℕ → Fault → Type 0
IsFaultOf fs [] fault = ⊥
IsFaultOf [] (b ∷ s) fault = fault ≡ Fs
IsFaultOf (c ∷ []) (b ∷ s) fault = ⊥
IsFaultOf (c ∷ d ∷ fs) (b ∷ s) fault = (fault ≡ Ere) × SpellsNone (c ∷ d ∷ fs)

-- ---- what calls report

-- where a call stops for a fault, P holds of it
abbrev pub IfFault : Stop → (Fault → Type 0) → Type 0
IfFault (stops.Fault fault) P = P fault
IfFault stops.Memory P = Unit {0}

-- the fault of an expression that cannot be read
abbrev pub TellsNone : List ℕ → Stop → Type 0
TellsNone pattern stop = IfFault stop (λ fault. (fault ≡ Ere) × SpellsNone pattern)

-- the ranges that were added are those of the fields between the matches of an expression
pub record AddsBetween (pattern : List ℕ) (paragraph : Bool) (s : List ℕ) (old new : List (Range ℕ)) : Type 0 where
  pub fields : List (ℕ × ℕ)
  pub right : AreFieldsBetween pattern paragraph s fields
  pub added : new ≡ old ++ map range_of fields

-- the ranges that were added are those of a record's fields by an FS
pub record AddsFields (fs : List ℕ) (paragraph : Bool) (s : List ℕ) (old new : List (Range ℕ)) : Type 0 where
  pub fields : List (ℕ × ℕ)
  pub right : AreFieldsOf fs paragraph s fields
  pub added : new ≡ old ++ map range_of fields
