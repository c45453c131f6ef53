-- What a worker does with the chunks that it draws.
use Rattle.std.specs.Prelude.{◌≡◌, ◌⊎◌, ℕ, ◌<◌, ◌≤◌, Bool, true, false, List, [], ◌∷◌, ◌++◌, length, map, filter, All, AllPairs, Contains, slice_get, IfSome, if◌then◌else◌}
use Rattle.pawk_board.specs.declared.hand.Hand.{Hand}
use Rattle.pawk_board.specs.History.{tells, sees}
use Rattle.pawk_input.specs.declared.cutting.Chunk.{Chunk}
use Rattle.pawk_frozen.specs.Frozens.{Frozen}
use Rattle.pawk_store.specs.Records.{End}
use Rattle.pawk_store.specs.declared.left.Left.{Left}
use Rattle.pawk_store.specs.declared.left.Left.TheVariants as left
use Rattle.pawk_merge_law.specs.Chunks.{Leaves}
use Rattle.pawk_merge.specs.declared.chunk_result.ChunkResult.{ChunkResult}
use Rattle.pawk_chunks.specs.Task.{end_in}
use Rattle.pawk_chunks.specs.declared.task.Task.{Task}

-- a chunk's number and its result
abbrev pub Numbered : Type 0
Numbered = ℕ × ChunkResult

-- whether no chunk after one that was left so is wanted
abbrev pub stops : Left → Bool
stops left.Through = false
stops left.NextFile = true
stops (left.Exit n) = true
stops (left.Fault f) = true
stops left.Clash = true

abbrev pub numbers : List Numbered → List ℕ
numbers rs = map (λ (r : Numbered). r.0) rs

-- the numbers of the chunks that were not left through
abbrev pub stopping : List Numbered → List ℕ
stopping rs = numbers (filter (λ (r : Numbered). stops r.1.left) rs)

-- the result is what the plan's chunk of that number leaves
abbrev pub IsResultIn : (Chunk → End Frozen) → List Chunk → Numbered → Type 0
IsResultIn end plan r = (r.0 < length plan) × IfSome (slice_get plan r.0) (λ c. Leaves (end c) r.1)

-- the same of a task's chunk
abbrev pub IsResultOf : Task → Numbered → Type 0
IsResultOf t r = IsResultIn (end_in t.opening t.source) t.source.plan.now r

-- the seat saw a stop below n
abbrev pub Skips : Hand → ℕ → Hand → Type 0
Skips h n k = (w : ℕ) × (w < n) × (k ≡ sees h w)

-- the seat looked at the stop, and reported the chunk n as one where the chunk was not left through
abbrev pub Runs : Hand → ℕ → Bool → Hand → Type 0
Runs h n stop k = (w : ℕ) × (k ≡ if stop then tells (sees h w) n else sees h w)

-- a number that was drawn, and whether its chunk was run
abbrev pub Mark : Type 0
Mark = ℕ × Bool

abbrev pub marked : List Mark → List ℕ
marked marks = map (λ (m : Mark). m.0) marks

-- those of which the chunk was run
abbrev pub ran_of : List Mark → List ℕ
ran_of marks = marked (filter (λ (m : Mark). m.1) marks)

-- the chunk was run, or a stop below it was seen
abbrev pub RanOrSeen : List ℕ → Mark → Type 0
RanOrSeen saw m = (m.1 ≡ true) ⊎ ((w : ℕ) × (w < m.0) × Contains saw w)

-- A worker drew numbers that rise, the last of which alone is no chunk. Its results are, in that order, of the chunks that
-- it ran; it ran each but those that it saw a stop below, and reported those as stops that were not left through.
pub record HasWorked (chunks : ℕ) (old new : Hand) (results : List Numbered) : Type 0 where
  pub marks : List Mark
  pub last : ℕ
  pub drawn : new.drawn ≡ old.drawn ++ (marked marks ++ last ∷ [])
  pub rises : AllPairs (λ a b. a < b) (marked marks ++ last ∷ [])
  pub past : chunks ≤ last
  pub below : All (λ (m : Mark). m.0 < chunks) marks
  pub ran : numbers results ≡ ran_of marks
  pub seen : All (RanOrSeen new.saw) marks
  pub told : new.told ≡ old.told ++ stopping results
