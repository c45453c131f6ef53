-- Values by keys of bytes. They are in the order of the bytes of their keys.
use Rattle.std.specs.Prelude.{◌≡◌, ℕ, true, not, List, map, Option}
use Rattle.std.specs.Option.{unwrap_or}
use Rattle.std.specs.declared.cmp.Ordering.{Ordering}
use Rattle.std.specs.Ordering.{nat_cmp}
use Rattle.std.specs.Cmp.Lexicographic.{slice_cmp}
use Rattle.std.specs.Str.{bytes_eq}
use Rattle.std.specs.FinMap.Entries.{find, where_key, is_sorted, put as put_by}

abbrev pub Keyed : Type 0 → Type 0
Keyed A = List (List ℕ × A)

-- the order of bytes: a text that is the beginning of another comes before it
abbrev pub order : List ℕ → List ℕ → Ordering
order = slice_cmp nat_cmp

-- the keys rise strictly
abbrev pub Rise : {A : Type 0} → Keyed A → Type 0
Rise es = is_sorted order es ≡ true

-- what a key has
abbrev pub found : {A : Type 0} → List ℕ → Keyed A → Option A
found k es = find order k es

-- with this value at a key, in its place
abbrev pub put : {A : Type 0} → List ℕ → A → Keyed A → Keyed A
put k v es = put_by order k v es

-- without a key
abbrev pub without : {A : Type 0} → List ℕ → Keyed A → Keyed A
without k es = where_key order (λ other. not (bytes_eq k other)) es

abbrev pub keys : {A : Type 0} → Keyed A → List (List ℕ)
keys es = map (λ e. e.0) es

-- what a key has, or this where it is missing
abbrev pub found_or : {A : Type 0} → A → List ℕ → Keyed A → A
found_or fresh k es = unwrap_or (found k es) fresh

-- with a value at a key: the one that is there, or else this
abbrev pub touched_by : {A : Type 0} → A → List ℕ → Keyed A → Keyed A
touched_by fresh k es = put k (found_or fresh k es) es
