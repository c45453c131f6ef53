-- What a call that replaces leaves.
use Rattle.std.specs.Prelude.{◌≡◌, ◌<◌, ◌⊎◌, ℕ, List, Result, Ok, Err, length}
use Rattle.pawk_value.specs.declared.faults.Fault.{Fault}
use Rattle.pawk_value.specs.Limits.{length_limit}
use Rattle.pawk_value.specs.declared.faults.Stop.{Stop}
use Rattle.pawk_fields.specs.FieldsOf.{IfFault}
use Rattle.pawk_store.specs.Builtins.{Replaced}

-- the text is the one that is meant, or both are longer than a text may be
abbrev pub IsOrBothTooLong : List ℕ → List ℕ → Type 0
IsOrBothTooLong text meant = (text ≡ meant) ⊎ ((length_limit < length text) × (length_limit < length meant))

-- some matches are replaced, and the text and the one that is meant are longer than a text may be
pub record AreBothTooLong (text : List ℕ) (count : ℕ) (meant : Replaced) : Type 0 where
  pub some : (0 < count) × (0 < meant.count)
  pub long : (length_limit < length text) × (length_limit < length meant.text)

-- n were replaced, and where there is one, the text is this; or the text is too long, as it is meant to be
abbrev pub Left : List ℕ → ℕ → Result Replaced Fault → Type 0
Left text count (Ok r) = ((r.count ≡ count) × (0 < count → r.text ≡ text)) ⊎ AreBothTooLong text count r
Left text count (Err f) = ⊥

-- the text with its matches replaced, or the fault of its definition
abbrev pub Replaces : Result Replaced Fault → List ℕ → Result ℕ Stop → Type 0
Replaces meant text (Ok count) = Left text count meant
Replaces meant text (Err stop) = IfFault stop (λ fault. meant ≡ Err fault)
