use Rattle.std.proofs.Common.{rules, ℕ, ◌<◌, All, refl, sym, ap, ◌∙◌, subst, arith}
use Rattle.pawk_board.specs.declared.hand.Hand.{Hand}
use Rattle.pawk_board.specs.Claims.{Answers}
use Rattle.pawk_board.specs.History.{drew}
use Rattle.pawk_board.specs.Rule.{hand_in}
use Rattle.pawk_board.proofs.Moves.{draws, one_hand}
use Rattle.pawk_board.proofs.board.Board.claim.Goals as goal
use Rattle.pawk_board.proofs.board.Board.claim.Goals.{then-n-self, else-n-self}

pub fetch_add-n-requires : goal.fetch_add-n-requires
fetch_add-n-requires c =
    let chunks = c.self.invariant.chunks_are ∙ ap (λ v. v.chunks) c.self.view_is in
    let hand = ap (λ v. v.hand) c.seat.view_is in (
      search rules,
      search rules,
      draws _ _ _ _ (search rules) (search rules) c.seat.invariant
          (subst (λ (h : Hand). All (λ n. n < c.self.inside.table.shared.key.chunks) h.drawn) (sym hand)
          (subst (λ (k : ℕ). All (λ n. n < k) c.args.seat.now.hand.drawn) (sym chunks) c.requires.undone)),
    )

pub invariant_of-seat : goal.invariant_of-seat
invariant_of-seat c = one_hand _ _ c.fetch_add-n.ensures.2.0

pub returns : goal.returns
returns c =
    let hand = ap (λ v. v.hand) c.seat.view_is in
    let chunks = ap (λ v. v.chunks) c.self.view_is in
    let board = c.fetch_add-n.ensures.0 ∙ ap (λ v. v.board) c.seat.view_is in
    let after = ap (λ m. hand_in m.0) c.fetch_add-n.ensures.2.0 ∙ ap (λ v. drew v.hand c.fetch_add-n.result) c.seat.view_is in (
      c.fetch_add-n.result,
      (λ i. record { board = board i; hand = after i }),
      subst (λ (h : Hand). All (λ m. m < c.fetch_add-n.result) h.drawn) hand c.fetch_add-n.ensures.2.1,
      elim c.if-n-self.branch [ then-n-self w ↦ subst (Answers c.args.self.now.chunks c.fetch_add-n.result) (sym w.result-is) (refl, omega arith) | else-n-self w ↦ subst (Answers c.args.self.now.chunks c.fetch_add-n.result) (sym w.result-is) (omega arith) ],
    )
