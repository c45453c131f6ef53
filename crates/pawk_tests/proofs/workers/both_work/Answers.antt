use denote.Param.Send.{sendable}
use Rattle.std.proofs.Crossing.{crosses}
use Rattle.pawk_board.proofs.board.BoardSeat.TheSendSync as seat
use Rattle.pawk_tests.proofs.Sending.{task_row_send, gate_send}
use Rattle.pawk_tests.proofs.workers.both_work.Goals as goal

pub join-requires-send-F : goal.join-requires-send-F
join-requires-send-F g c κs within =
    let gate = c.type_bounds.sync-G in
    search (sendable, crosses, gate, task_row_send, seat.the_send, gate_send) depth 30
