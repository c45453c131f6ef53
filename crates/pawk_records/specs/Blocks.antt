-- A file in blocks: its bytes are those of the blocks in order.
use Rattle.std.specs.Prelude.{◌≡◌, ℕ, ◌+◌, ◌-◌, ◌<◌, List, [], ◌∷◌, ◌++◌, length, take, drop, map}
use Rattle.std.specs.Prelude.{slice_index}
use Rattle.pawk_records.specs.Begins.{begins_by}

-- the bytes of the file
abbrev pub joined : List (List ℕ) → List ℕ
joined [] = []
joined (b ∷ bs) = b ++ joined bs

-- a record may end where the block does: by one byte, at that byte; paragraphs are never parted
abbrev pub EndsRecord : List ℕ → List ℕ → Type 0
EndsRecord [] b = ⊥
EndsRecord (separator ∷ rs) b = slice_index b (length b - 1) ≡ separator

-- No record goes on in a later block: where a block holds bytes and a later one does, a record ends
-- with the block. So an empty RS leaves all bytes in one block.
abbrev pub AreMended : List ℕ → List (List ℕ) → Type 0
AreMended rs [] = Unit {0}
AreMended rs (b ∷ bs) =
    (0 < length b → 0 < length (joined bs) → EndsRecord rs b) × AreMended rs bs

-- what lies in each block of the `size` bytes of the file from place `start` on
abbrev pub parts : ℕ → ℕ → List (List ℕ) → List (List ℕ)
parts start size [] = []
parts start size (b ∷ bs) =
    take size (drop start b) ∷ parts (start - length b) (size - (length b - start)) bs

-- the places at which records of the blocks begin, each block by itself, where `from` bytes came
-- before the first
abbrev pub begins_along : List ℕ → ℕ → List (List ℕ) → List ℕ
begins_along rs from [] = []
begins_along rs from (b ∷ bs) =
    map (λ p. from + p) (begins_by rs b) ++ begins_along rs (from + length b) bs
