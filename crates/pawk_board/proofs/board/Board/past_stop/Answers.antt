use Rattle.std.proofs.Common.{rules, ◌≤◌, All, ap, ◌∙◌, subst, arith}
use Rattle.std.proofs.lemmas.Bool.Decides.{nat_tests}
use Rattle.pawk_board.specs.declared.hand.Hand.{Hand}
use Rattle.pawk_board.specs.History.{sees}
use Rattle.pawk_board.specs.Rule.{hand_in}
use Rattle.pawk_board.proofs.Moves.{looks, one_hand}
use Rattle.pawk_board.proofs.board.Board.past_stop.Goals as goal
use Rattle.pawk_board.proofs.board.Board.past_stop.Goals.{then-stop-n, else-stop-n}

pub load-stop-requires : goal.load-stop-requires
load-stop-requires c = (search rules, search rules, looks _ _ _ _ c.seat.invariant)

pub invariant_of-seat : goal.invariant_of-seat
invariant_of-seat c = one_hand _ _ c.load-stop.ensures.2.0

pub returns : goal.returns
returns c =
    let stop = c.load-stop.result in
    let board = c.load-stop.ensures.0 ∙ ap (λ v. v.board) c.seat.view_is in
    let hand = ap (λ v. v.hand) c.seat.view_is in
    let chunks = ap (λ v. v.chunks) c.self.view_is in
    let after = ap (λ m. hand_in m.0) c.load-stop.ensures.2.0 ∙ ap (λ v. sees v.hand stop) c.seat.view_is in (
      stop,
      (λ i. record { board = board i; hand = after i }),
      subst (λ (h : Hand). All (λ t. stop ≤ t) h.told) hand c.load-stop.ensures.2.1,
      subst (λ (h : Hand). All (λ t. stop ≤ t) h.saw) hand c.load-stop.ensures.2.2,
      elim c.if-stop-n.branch [ then-stop-n w ↦ grind (arith, nat_tests, chunks) | else-stop-n w ↦ grind (arith, nat_tests, chunks) ],
    )
