use Rattle.std.proofs.Common.{◌≡◌, All, ◌∷◌, sym, ap, ◌∙◌, subst, length, arith}
use Rattle.std.proofs.lemmas.List.Elements.{All-same, All-head, All-tail, All-push}
use Rattle.pawk_board.specs.Views.{SeatView, fresh}
use Rattle.pawk_tests.proofs.boards.each_claims.Goals as goal

pub loop-seat-preserved : goal.loop-seat-preserved
loop-seat-preserved c =
    let id = c.args.board.now.id in
    let B = λ (s : SeatView). s.board ≡ id in
    let F = λ (s : SeatView). s ≡ fresh id in
    let steps = c.in-Some.ensures.steps.0 in
    let left : All F (c.in-Some.seat ∷ c.next.new.self.rest.items) = All-same F _ _ (sym steps) c.loop-seat.invariant.left in
    let same : c.claim.new.seat.board ≡ id = ap (λ s. s.board) c.claim.ensures.1 ∙ ap (λ s. s.board) (All-head F _ _ left) in
    record {
      board = subst (All B) (sym c.in_ok-push.ensures.items) (All-push B c.loop-seat.back.items c.claim.new.seat c.loop-seat.invariant.board same);
      left = All-tail F _ _ left;
      count = (let long = ap length steps in let len = c.in_ok-push.ensures.len in let was = c.loop-seat.invariant.count in omega arith);
    }
