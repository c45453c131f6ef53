-- What the calls on a seat ask and answer.
use Rattle.std.specs.Prelude.{◌≡◌, ℕ, ◌<◌, ◌≤◌, Bool, All, Contains, IsTrue, ◌↔◌}
use Rattle.pawk_board.specs.declared.board.Claim.{Claim}
use Rattle.pawk_board.specs.declared.board.Claim.TheVariants.{Chunk, Done}
use Rattle.pawk_board.specs.declared.hand.Hand.{Hand}
use Rattle.pawk_board.specs.History.{drew, sees}
use Rattle.pawk_board.specs.Views.{SeatView}

-- the seat was not told that no chunk is left: each number that it drew is a chunk
abbrev pub IsUndone : ℕ → Hand → Type 0
IsUndone chunks h = All (λ n. n < chunks) h.drawn

-- the seat claimed the chunk n
abbrev pub HasClaimed : ℕ → Hand → ℕ → Type 0
HasClaimed chunks h n = (n < chunks) × Contains h.drawn n

-- the answer to a draw of n: the chunk n, where there is one, else that none is left
abbrev pub Answers : ℕ → ℕ → Claim → Type 0
Answers chunks n (Chunk k) = (k ≡ n) × (n < chunks)
Answers chunks n Done = chunks ≤ n

-- the seat drew one number more, above all that it drew before, reported and saw nothing, and this is the answer
abbrev pub Claims : ℕ → SeatView → SeatView → Claim → Type 0
Claims chunks old new answer = (n : ℕ) × (new ≡ record old { hand = drew old.hand n }) × All (λ m. m < n) old.hand.drawn × Answers chunks n answer

-- the seat saw one stop more, at most each that it reported or saw before, drew and reported nothing, and the answer is
-- whether that stop is a chunk below n
abbrev pub LooksPast : ℕ → SeatView → SeatView → ℕ → Bool → Type 0
LooksPast chunks old new n answer =
    (w : ℕ) × (new ≡ record old { hand = sees old.hand w }) × All (λ t. w ≤ t) old.hand.told × All (λ t. w ≤ t) old.hand.saw × (IsTrue answer ↔ ((w < n) × (w < chunks)))
