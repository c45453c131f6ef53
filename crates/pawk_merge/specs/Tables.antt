-- What becomes of the globals, where what a chunk noted is joined to them.
use Rattle.std.specs.Prelude.{ℕ, zero, suc, ◌&&◌, Bool, true, List, [], ◌∷◌, map, length, Option, Some, None, slice_index_or}
use Rattle.std.specs.List.{list_all}
use Rattle.pawk_value.specs.Value.{Val}
use Rattle.pawk_array.specs.Entries.{Entries, found, put, value_of}
use Rattle.pawk_world.specs.Worlds.{scalar}
use Rattle.pawk_store.specs.Globals.{Globals, array_at, value_at}
use Rattle.pawk_frozen.specs.Marks.{Mark, blank, Marks, mark_found, Table}
use Rattle.pawk_merge.specs.Joins.{takes, joined_value, joined_element}

abbrev pub with_element : List ℕ → Option Val → Entries → Entries
with_element key None es = es
with_element key (Some v) es = put key v es

-- elements, of which those with these keys are joined to what was noted of them
abbrev pub join_keys : List (List ℕ) → Marks → Entries → Entries
join_keys [] marks es = es
join_keys (key ∷ keys) marks es =
    with_element key (joined_element (mark_found key marks) (found key es)) (join_keys keys marks es)

-- the keys of which something was noted
abbrev pub keys_of : Marks → List (List ℕ)
keys_of marks = map (λ e. e.0) marks

abbrev pub join_array : Marks → Entries → Entries
join_array marks es = join_keys (keys_of marks) marks es

-- whether the element of a key takes what was noted of it
abbrev pub element_takes : Marks → Entries → List ℕ → Bool
element_takes marks es key = takes (mark_found key marks) (value_of (found key es))

abbrev pub array_takes : Marks → Entries → Bool
array_takes marks es = list_all (element_takes marks es) (keys_of marks)

-- each of these, by its place; the first is at this one
abbrev pub by_place : {X : Type 0} → (ℕ → X → X) → ℕ → List X → List X
by_place f n [] = []
by_place f n (x ∷ xs) = f n x ∷ by_place f (suc n) xs

-- whether a test holds of each number below this one
abbrev pub each_below : ℕ → (ℕ → Bool) → Bool
each_below zero p = true
each_below (suc n) p = each_below n p && p n

-- what was noted of a scalar, and of the elements of an array
abbrev pub scalar_mark : List Mark → ℕ → Mark
scalar_mark marks n = slice_index_or marks n blank

abbrev pub array_marks : List Marks → ℕ → Marks
array_marks marks n = slice_index_or marks n []

abbrev pub scalars_take : List Mark → Globals → Bool
scalars_take marks g = each_below (length marks) (λ n. takes (scalar_mark marks n) (value_at (scalar n) g))

abbrev pub arrays_take : List Marks → Globals → Bool
arrays_take marks g = each_below (length marks) (λ n. array_takes (array_marks marks n) (array_at g n))

abbrev pub join_scalars : List Mark → Globals → Globals
join_scalars marks g = record g { scalars = by_place (λ n v. joined_value (scalar_mark marks n) v) 0 g.scalars }

abbrev pub join_arrays : List Marks → Globals → Globals
join_arrays marks g = record g { arrays = by_place (λ n es. join_array (array_marks marks n) es) 0 g.arrays }

-- whether each cell takes what was noted of it
abbrev pub all_take : Table → Globals → Bool
all_take table g = scalars_take table.scalars g && arrays_take table.arrays g

-- the globals, each cell of which is joined to what was noted of it
abbrev pub join_table : Table → Globals → Globals
join_table table g = join_arrays table.arrays (join_scalars table.scalars g)
