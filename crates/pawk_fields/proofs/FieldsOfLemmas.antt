-- Fields by an expression are fields by an FS.
use Rattle.std.proofs.Common.{◌≡◌, ℕ, ◌≤◌, Bool, List, [], ◌∷◌, Result, Ok, Err, OnOk, length, arith}
use Rattle.std.specs.declared.ops.Range.{Range}
use Rattle.pawk_value.specs.declared.faults.Stop.{Stop}
use Rattle.pawk_fields.specs.Between.{AreFieldsBetween}
use Rattle.pawk_fields.specs.FieldsOf.{AddsBetween, AddsFields, AreFieldsOf}

by_expression : (fs : List ℕ) (paragraph : Bool) (s : List ℕ) (fields : List (ℕ × ℕ)) → 2 ≤ length fs → AreFieldsBetween fs paragraph s fields → AreFieldsOf fs paragraph s fields
by_expression fs paragraph [] fields long h = h
by_expression [] paragraph (b ∷ s) fields long h = absurd (omega arith)
by_expression (c ∷ []) paragraph (b ∷ s) fields long h = absurd (omega arith)
by_expression (c ∷ d ∷ fs) paragraph (b ∷ s) fields long h = h

pub adds_fields : (fs : List ℕ) (paragraph : Bool) (s : List ℕ) (old new : List (Range ℕ)) → 2 ≤ length fs → AddsBetween fs paragraph s old new → AddsFields fs paragraph s old new
adds_fields fs paragraph s old new long h = record { fields = h.fields; right = by_expression fs paragraph s h.fields long h.right; added = h.added }

pub result_fields : (r : Result (Unit {0}) Stop) (fs : List ℕ) (paragraph : Bool) (s : List ℕ) (old new : List (Range ℕ)) → 2 ≤ length fs → OnOk r (AddsBetween fs paragraph s old new) → OnOk r (AddsFields fs paragraph s old new)
result_fields (Ok x) fs paragraph s old new long h = adds_fields fs paragraph s old new long h
result_fields (Err why) fs paragraph s old new long h = tt
