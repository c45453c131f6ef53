-- What the workers that count share, and what they hand back.
use Rattle.std.specs.Prelude.{◌≡◌, ◌⊎◌, ℕ, ◌<◌, ◌≤◌, List, [], ◌∷◌, ◌++◌, length, map, All, Contains, Some, slice_get, IfOk, Ok, Err, Result}
use Rattle.std.specs.declared.vec.Vec.{Vec}
use Rattle.std.specs.declared.alloc.Global.{Global}
use Rattle.std.specs.declared.alloc.AllocError.{AllocError}
use Rattle.pawk_board.specs.declared.hand.Hand.{Hand}
use Rattle.pawk_input.specs.Input.{IsReady, files_of}
use Rattle.pawk_input.specs.Counts.{block_counts}
use Rattle.pawk_workers.specs.Sizes.{blocks_in}
use Rattle.pawk_workers.specs.declared.task.CountTask.{CountTask}
use Rattle.pawk_workers.specs.declared.shifts.CountShift.{CountShift}

-- RS has at most one byte, the input is ready for it, a block has bytes, and the board has as many chunks as there are blocks
pub record IsCountTask (t : CountTask) : Type 0 where
  pub one_byte : length t.rs.now ≤ 1
  pub ready : IsReady t.rs.now t.input.now
  pub some : 0 < t.block
  pub counted : t.board.now.chunks ≡ blocks_in t.block (files_of t.input.now)

-- the counts of all blocks, in order
abbrev pub counts_in : CountTask → List ℕ
counts_in t = block_counts t.rs.now t.block (files_of t.input.now)

-- a block's number and how many records begin in it
abbrev pub Numbered : Type 0
Numbered = ℕ × ℕ

abbrev pub numbers : List Numbered → List ℕ
numbers rs = map (λ (r : Numbered). r.0) rs

-- this is the count at its number
abbrev pub IsCountIn : List ℕ → Numbered → Type 0
IsCountIn counts r = slice_get counts r.0 ≡ Some r.1

-- a seat drew these numbers, and then one that is no block's
abbrev pub HasDrawn : ℕ → Hand → List ℕ → Type 0
HasDrawn blocks h ns = (last : ℕ) × (h.drawn ≡ ns ++ last ∷ []) × (blocks ≤ last)

-- a worker that had done nothing has counted the blocks that it drew from the task's board
abbrev pub HasCounted : CountTask → CountShift → Type 0
HasCounted t shift =
    (shift.seat.board ≡ t.board.now.id)
    × IfOk shift.counts (λ v. HasDrawn t.board.now.chunks shift.seat.hand (numbers v.items) × All (IsCountIn (counts_in t)) v.items)

abbrev pub numbered_in : Result (Vec Numbered Global) AllocError → List Numbered
numbered_in (Ok v) = v.items
numbered_in (Err e) = []

-- the numbered counts of a shift, where no allocation was refused
abbrev pub numbered_of : CountShift → List Numbered
numbered_of shift = numbered_in shift.counts

-- of counts of which all of these are true, those at their numbers are there
abbrev pub Enters : List Numbered → List ℕ → Type 0
Enters rs counts = (wanted : List ℕ) → All (IsCountIn wanted) rs → (n : ℕ) → Contains (numbers rs) n → slice_get counts n ≡ slice_get wanted n

-- of counts of which all of these are true, those at their numbers came to be there, and those that were there stayed
abbrev pub EntersMore : List Numbered → List ℕ → List ℕ → Type 0
EntersMore rs before counts =
    (wanted : List ℕ) → All (IsCountIn wanted) rs → (n : ℕ) → (slice_get before n ≡ slice_get wanted n) ⊎ Contains (numbers rs) n
    → slice_get counts n ≡ slice_get wanted n
