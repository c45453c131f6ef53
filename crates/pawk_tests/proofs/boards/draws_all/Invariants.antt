use Rattle.std.proofs.Common.{◌≡◌, ◌-◌}
use Rattle.pawk_board.specs.Claims.{IsUndone}
use Rattle.pawk_board.proofs.Rising.{above}
use Rattle.pawk_tests.proofs.boards.draws_all.Given as goal

abbrev pub invariant-loop-n : goal.invariant-loop-n
invariant-loop-n l = record { board : l.seat.board ≡ l.board.id; undone : IsUndone l.board.chunks l.seat.hand }

abbrev pub decreases-loop-n : goal.decreases-loop-n
decreases-loop-n l = l.board.chunks - above l.seat.hand.drawn
