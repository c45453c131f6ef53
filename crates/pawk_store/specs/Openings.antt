-- The globals with which a run begins: the variables of the language have their values, then the assignments that were
-- asked for are made in their order (POSIX.1-2017, awk, "Variables and Special Variables"; "OPTIONS", -v).
use Rattle.std.specs.Prelude.{◌≡◌, ℕ, is_some, if◌then◌else◌, List, [], ◌∷◌, ◌++◌, map, replicate, codes, Vec}
use Rattle.std.specs.declared.alloc.Global.{Global}
use Rattle.std.specs.Str.{bytes_eq}
use Rattle.pawk_array.specs.Entries.{Entries, found, put}
use Rattle.pawk_value.specs.Value.{Val, Uninit, Text, Maybe}
use Rattle.pawk_lex.specs.Vocabulary.{is_among}
use Rattle.pawk_settings.specs.declared.assignment.Assignment.{Assignment}
use Rattle.pawk_store.specs.Globals.{Globals}

-- the names of the code
abbrev pub texts_of : List (Vec ℕ Global) → List (List ℕ)
texts_of names = map (λ name. name.items) names

-- assignments of the code, as names and what they are assigned
abbrev pub pairs_of : List Assignment → List (List ℕ × List ℕ)
pairs_of assignments = map (λ a. (a.name.items, a.value.items)) assignments

-- what a scalar of this name begins with
abbrev pub first_value : List ℕ → Val
first_value name =
    if bytes_eq name (codes "FS") then Text (32 ∷ []) else
    if bytes_eq name (codes "OFS") then Text (32 ∷ []) else
    if bytes_eq name (codes "ORS") then Text (10 ∷ []) else
    if bytes_eq name (codes "RS") then Text (10 ∷ []) else
    if bytes_eq name (codes "SUBSEP") then Text (28 ∷ []) else
    if bytes_eq name (codes "CONVFMT") then Text (codes "%.6g") else
    if bytes_eq name (codes "OFMT") then Text (codes "%.6g") else Uninit

-- what a scalar of this name that has a value has after assignments in their order, each of a text from outside
abbrev pub value_after : List (List ℕ × List ℕ) → List ℕ → Val → Val
value_after [] name v = v
value_after (a ∷ rest) name v = value_after rest name (if bytes_eq name a.0 then Maybe a.1 else v)

-- with a name that is not yet there
abbrev pub with_name : List (List ℕ) → List ℕ → List (List ℕ)
with_name names name = if is_among names name then names else names ++ name ∷ []

-- the names of scalars, those of the program and then others that are assigned
abbrev pub names_with : List (List ℕ) → List (List ℕ × List ℕ) → List (List ℕ)
names_with names [] = names
names_with names (a ∷ rest) = names_with (with_name names a.0) rest

-- what a scalar of this name has when the run begins
abbrev pub opening_value : List (List ℕ × List ℕ) → List ℕ → Val
opening_value assignments name = value_after assignments name (first_value name)

-- what names are assigned last, over what they had
abbrev pub with_assignments : List (List ℕ × List ℕ) → Entries → Entries
with_assignments [] es = es
with_assignments (a ∷ rest) es = with_assignments rest (put a.0 (Maybe a.1) es)

-- just these names have an element
abbrev pub Knows : Entries → List (List ℕ) → Type 0
Knows es names = (w : List ℕ) → is_some (found w es) ≡ is_among names w

-- the globals of a program with scalars of these names and this number of arrays, where these names are assigned texts
abbrev pub opened : List (List ℕ) → ℕ → List (List ℕ × List ℕ) → Globals
opened names arrays assignments = record {
  scalars = map (opening_value assignments) (names_with names assignments);
  arrays = replicate arrays [];
}
