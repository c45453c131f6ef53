use Rattle.std.proofs.Common.{◌≡◌, ◌-◌, All}
use Rattle.pawk_board.proofs.Rising.{above}
use Rattle.pawk_chunks.specs.Worker.{IsResultOf}
use Rattle.pawk_chunks.proofs.WorkerLemmas.{SoFar}
use Rattle.pawk_chunks.proofs.worker.work.Given as goal

abbrev pub invariant-loop-results : goal.invariant-loop-results
invariant-loop-results g l = record {
  board : l.seat.board ≡ l.task.board.now.id;
  so_far : SoFar l.fn.seat.hand l.seat.hand l.task.board.now.chunks l.results.items;
  made : All (IsResultOf l.task) l.results.items;
}

abbrev pub decreases-loop-results : goal.decreases-loop-results
decreases-loop-results g l = l.task.board.now.chunks - above l.seat.hand.drawn
