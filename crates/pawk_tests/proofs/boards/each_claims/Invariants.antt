use Rattle.std.proofs.Common.{◌≡◌, ◌+◌, All, vec_len, length}
use Rattle.pawk_board.specs.Views.{SeatView, fresh}
use Rattle.pawk_tests.proofs.boards.each_claims.Given as goal

abbrev pub invariant-loop-seat : goal.invariant-loop-seat
invariant-loop-seat l = record {
  board : All (λ (s : SeatView). s.board ≡ l.board.id) l.back.items;
  left : All (λ (s : SeatView). s ≡ fresh l.board.id) l.seat-iterator.rest.items;
  count : vec_len l.back + length l.seat-iterator.rest.items ≡ vec_len l.fn.seats;
}
