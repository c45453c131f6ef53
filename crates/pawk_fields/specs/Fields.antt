-- The fields of a record that blanks separate.
-- POSIX.1-2017, awk, "Variables and Special Variables" (FS), the default: one space.
use Rattle.std.specs.Prelude.{◌≢◌, ◌++◌, ◌≡◌, ℕ, Bool, true, false, not}
use Rattle.std.specs.Prelude.{if◌then◌else◌, List, [], ◌∷◌}
use Rattle.std.specs.List.{onto_first}
use Rattle.pawk_value.specs.Bytes.{is_blank}

abbrev pub is_not_blank : ℕ → Bool
is_not_blank b = not (is_blank b)

-- s is blanks
abbrev pub AllBlank : List ℕ → Type 0
AllBlank [] = Unit {0}
AllBlank (b ∷ s) = (is_blank b ≡ true) × AllBlank s

-- s holds no blank
abbrev pub NoBlank : List ℕ → Type 0
NoBlank [] = Unit {0}
NoBlank (b ∷ s) = (is_blank b ≡ false) × NoBlank s

-- s ends, or goes on with a blank
abbrev pub EndsWord : List ℕ → Type 0
EndsWord [] = Unit {0}
EndsWord (b ∷ s) = is_blank b ≡ true

-- The record is blanks, a field, at least one blank, a field, .., a field, blanks:
-- no field is empty or holds a blank, and there may be no blanks at either end.
abbrev pub IsPartedInto : List ℕ → List (List ℕ) → Type 0
IsPartedInto s [] = AllBlank s
IsPartedInto s (f ∷ fs) =
    (gap rest : List ℕ) × (s ≡ gap ++ (f ++ rest)) × AllBlank gap
    × (f ≢ []) × NoBlank f × EndsWord rest × IsPartedInto rest fs

-- whether the first byte is there and no blank
abbrev pub begins_word : List ℕ → Bool
begins_word [] = false
begins_word (b ∷ s) = is_not_blank b

-- blanks at both ends are skipped, and runs of them separate
abbrev pub blank_fields : List ℕ → List (List ℕ)
blank_fields [] = []
blank_fields (b ∷ s) =
    if is_blank b then blank_fields s
    else (if begins_word s then onto_first b (blank_fields s) else (b ∷ []) ∷ blank_fields s)

-- the fields are the one list that the record is parted into
abbrev pub FieldsLaw : List ℕ → Type 0
FieldsLaw s =
    IsPartedInto s (blank_fields s)
    × ((fs : List (List ℕ)) → IsPartedInto s fs → fs ≡ blank_fields s)
