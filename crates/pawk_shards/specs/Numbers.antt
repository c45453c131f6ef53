-- Records of which the number among all and the number of the file are others: of a program whose records may be run in chunks
-- they are of no consequence, since the run counts its records itself, and no such program asks for `nextfile`. So shards may
-- number their own. POSIX.1-2017, awk, "Variables and Special Variables" (NR).
use Rattle.std.specs.Prelude.{◌≡◌, ◌↔◌, ℕ, List, [], ◌∷◌, flat_map}
use Rattle.pawk_input.specs.Input.{File, Item, items}
use Rattle.pawk_merge.specs.Merges.{Chunk}
use Rattle.pawk_merge_law.specs.Phases.{Phase, MayRun, in_order, FaultsOrCreates}
use Rattle.pawk_merge_law.specs.ChunkedRuns.{IsTold}

-- the same records, but for their numbers among all and those of their files
abbrev pub AreSameButNumbers : List Item → List Item → Type 0
AreSameButNumbers [] [] = Unit {0}
AreSameButNumbers [] (j ∷ js) = ⊥
AreSameButNumbers (i ∷ is) [] = ⊥
AreSameButNumbers (i ∷ is) (j ∷ js) = (j ≡ record i { file = j.file; nr = j.nr }) × AreSameButNumbers is js

-- records end as others do, fault or create an element of an array that is no reader array where they do, and leave the same
-- where they are run apart as a chunk
pub record EndAlike (p : Phase) (some others : List Item) : Type 0 where
  pub ends : in_order p some ≡ in_order p others
  pub faults : FaultsOrCreates p some ↔ FaultsOrCreates p others
  pub apart : (nr : ℕ) (c : Chunk) → IsTold p nr some c → IsTold p nr others c

abbrev pub RenumberedLaw : Type 0
RenumberedLaw = (p : Phase) → MayRun p → (some others : List Item) → AreSameButNumbers some others → EndAlike p some others

-- The records of the files of all shards are those of each shard's own files, one shard after the other.
abbrev pub ShardFilesLaw : Type 0
ShardFilesLaw =
    (rs : List ℕ) (shards : List (List File)) →
    AreSameButNumbers (flat_map (λ files. items rs files) shards) (items rs (flat_map (λ files. files) shards))
