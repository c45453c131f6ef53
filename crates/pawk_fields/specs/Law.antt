-- The law of fields: they are in order, with what separates them they are the record, and there is one list of them.
use Rattle.std.specs.Prelude.{◌≡◌, ℕ, ◌≤◌, Bool, List, [], ◌∷◌, ◌++◌, length, drop, slice_range}
use Rattle.pawk_value.specs.declared.faults.Fault.{Fault}
use Rattle.pawk_fields.specs.FieldsOf.{AreFieldsOf, IsFaultOf}

-- the ranges are from one place up to another, each at the end of the one before or after it
abbrev pub AreInOrder : ℕ → ℕ → List (ℕ × ℕ) → Type 0
AreInOrder from end [] = Unit {0}
AreInOrder from end (f ∷ fs) = (from ≤ f.0) × (f.0 ≤ f.1) × (f.1 ≤ end) × AreInOrder f.1 end fs

-- the bytes of ranges and those between them, laid end to end, from a place on
abbrev pub end_to_end : List ℕ → ℕ → List (ℕ × ℕ) → List ℕ
end_to_end s from [] = drop from s
end_to_end s from (f ∷ fs) = slice_range s from f.0 ++ (slice_range s f.0 f.1 ++ end_to_end s f.1 fs)

-- what holds of a record's fields by an FS
pub record IsLawful (fs : List ℕ) (paragraph : Bool) (s : List ℕ) (fields : List (ℕ × ℕ)) : Type 0 where
  pub in_order : AreInOrder 0 (length s) fields
  pub whole : end_to_end s 0 fields ≡ s
  pub alone : (others : List (ℕ × ℕ)) → AreFieldsOf fs paragraph s others → others ≡ fields
  pub no_fault : (fault : Fault) → IsFaultOf fs s fault → ⊥

abbrev pub SplitLaw : List ℕ → Bool → List ℕ → Type 0
SplitLaw fs paragraph s = (fields : List (ℕ × ℕ)) → AreFieldsOf fs paragraph s fields → IsLawful fs paragraph s fields
