-- Records of a window with the numbers that they have in the whole input.
-- POSIX.1-2017, awk, "Variables and Special Variables" (NR, FNR).
use Rattle.std.specs.Prelude.{◌≡◌, ℕ, ◌+◌, List, [], ◌∷◌, ◌++◌, length, map, flat_map}
use Rattle.pawk_records.specs.Records.{records_by}
use Rattle.pawk_input.specs.Input.{File, Item, file_items}
use Rattle.pawk_input.specs.Plan.{chunk_after, chunk_items, IsPlanOf}
use Rattle.pawk_input.specs.declared.cutting.Chunk.{Chunk}

-- A plan of a window, taken as an input of its own: with the records counted that came before, its chunks are the window's
-- records in the whole input.
abbrev pub AfterLaw : Type 0
AfterLaw =
    (rs : List ℕ) (f : File) (plan : List Chunk) → IsPlanOf rs (f ∷ []) plan → (nr fnr : ℕ) →
    flat_map (chunk_items rs (f ∷ [])) (map (chunk_after nr fnr) plan) ≡ file_items 0 f.name nr fnr (records_by rs f.bytes)

-- the records of a file's windows, each numbered after the one before it
abbrev pub window_items : List ℕ → ℕ → List ℕ → ℕ → ℕ → List (List ℕ) → List Item
window_items rs file name nr fnr [] = []
window_items rs file name nr fnr (w ∷ ws) =
    file_items file name nr fnr (records_by rs w)
    ++ window_items rs file name (nr + length (records_by rs w)) (fnr + length (records_by rs w)) ws

-- they are the file's, where its records are those of the windows
abbrev pub WindowItemsLaw : Type 0
WindowItemsLaw =
    (rs : List ℕ) (file : ℕ) (name : List ℕ) (nr fnr : ℕ) (windows : List (List ℕ)) →
    file_items file name nr fnr (flat_map (records_by rs) windows) ≡ window_items rs file name nr fnr windows
