-- What contracts see of a board, of its seats and of its tally.
use Rattle.std.specs.Prelude.{ℕ, List, map}
use Rattle.atomic_table.specs.Seated.{TableId}
use Rattle.pawk_board.specs.declared.hand.Hand.{Hand}
use Rattle.pawk_board.specs.History.{blank}

-- a board: which one it is, and how many chunks and seats it has
pub record BoardView : Type 0 where
  pub id : TableId
  pub chunks : ℕ
  pub workers : ℕ

-- a seat: of which board, and what it has done
pub record SeatView : Type 0 where
  pub board : TableId
  pub hand : Hand

-- a seat that has done nothing
abbrev pub fresh : TableId → SeatView
fresh id = record { board = id; hand = blank }

-- what the seats have done, in their order
abbrev pub hands_in : List SeatView → List Hand
hands_in seats = map (λ s. s.hand) seats

-- the words of a board that was finished
pub record TallyView : Type 0 where
  pub counter : ℕ
  pub stop : ℕ
