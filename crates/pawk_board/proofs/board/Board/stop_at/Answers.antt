use Rattle.std.proofs.Common.{rules, ℕ, ◌<◌, Contains, sym, ap, ◌∙◌, subst}
use Rattle.pawk_board.specs.declared.hand.Hand.{Hand}
use Rattle.pawk_board.specs.History.{tells}
use Rattle.pawk_board.specs.Rule.{hand_in}
use Rattle.pawk_board.proofs.Moves.{tells_stop, one_hand}
use Rattle.pawk_board.proofs.board.Board.stop_at.Goals as goal

pub fetch_min-requires : goal.fetch_min-requires
fetch_min-requires c =
    let chunks = c.self.invariant.chunks_are ∙ ap (λ v. v.chunks) c.self.view_is in
    let hand = ap (λ v. v.hand) c.seat.view_is in (
      search rules,
      search rules,
      tells_stop _ _ _ _ _ c.seat.invariant (subst (λ (k : ℕ). c.args.n < k) (sym chunks) c.requires.claimed.0) (subst (λ (h : Hand). Contains h.drawn c.args.n) (sym hand) c.requires.claimed.1),
    )

pub invariant_of-seat : goal.invariant_of-seat
invariant_of-seat c = one_hand _ _ c.fetch_min.ensures.2

pub returns : goal.returns
returns c =
    let board = c.fetch_min.ensures.0 ∙ ap (λ v. v.board) c.seat.view_is in
    let after = ap (λ m. hand_in m.0) c.fetch_min.ensures.2 ∙ ap (λ v. tells v.hand c.args.n) c.seat.view_is in
    λ i. record { board = board i; hand = after i }
