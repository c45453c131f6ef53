use Rattle.std.proofs.Common.{◌≡◌, ℕ, ◌-◌, ◌<◌, ◌≤◌, All}
use Rattle.pawk_board.proofs.Rising.{above}
use Rattle.pawk_input.specs.Input.{files_of}
use Rattle.pawk_workers.specs.Counting.{IsCountIn, counts_in, numbers}
use Rattle.pawk_workers.specs.Places.{IsPlace}
use Rattle.pawk_workers.proofs.worker.count_drawn.Given as goal

abbrev pub invariant-loop-counts : goal.invariant-loop-counts
invariant-loop-counts g l = record {
  board : l.seat.board ≡ l.task.board.now.id;
  undone : All (λ n. n < l.task.board.now.chunks) l.seat.hand.drawn;
  drawn : l.seat.hand.drawn ≡ numbers l.counts.items;
  counts : All (IsCountIn (counts_in l.task)) l.counts.items;
  place : IsPlace l.task.block (files_of l.task.input.now) l.place;
  ahead : (n : ℕ) → All (λ m. m < n) l.seat.hand.drawn → l.place.before ≤ n;
}

abbrev pub decreases-loop-counts : goal.decreases-loop-counts
decreases-loop-counts g l = l.task.board.now.chunks - above l.seat.hand.drawn
