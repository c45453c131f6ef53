use Rattle.std.proofs.Common.{ℕ, ◌-◌, ◌<◌, List, sym, ap, ◌∙◌, subst}
use Rattle.pawk_board.proofs.Rising.{above}
use Rattle.pawk_board.proofs.Calls.{nearer_done}
use Rattle.pawk_tests.proofs.boards.draws_all.Goals as goal
use Rattle.pawk_tests.proofs.boards.draws_all.Goals.{then-n-last, else-n-last}

pub loop-n-smaller : goal.loop-n-smaller
loop-n-smaller c =
    let nearer = nearer_done _ _ _ _ c.in-Chunk.ensures in
    let Less : List ℕ → Type 0 = λ l. c.args.board.now.chunks - above l < c.args.board.now.chunks - above c.loop-n.seat.hand.drawn in
    elim c.if-n-last.branch [
      | then-n-last w ↦ subst Less (sym (ap (λ s. s.hand.drawn) w.seat-is ∙ ap (λ s. s.hand.drawn) w.stop_at.ensures)) nearer
      | else-n-last w ↦ subst Less (sym (ap (λ s. s.hand.drawn) w.seat-is)) nearer
    ]
