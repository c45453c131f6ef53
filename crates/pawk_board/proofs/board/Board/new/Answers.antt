use Rattle.std.proofs.Common.{rules, ◌≡◌, ℕ, ◌+◌, ◌-◌, List, [], ◌∷◌, ◌++◌, replicate, sym, ap, subst, ◌∙◌, arith}
use Rattle.pawk_board.specs.declared.hand.Hand.{Hand}
use Rattle.pawk_board.specs.History.{blank}
use Rattle.pawk_board.specs.Rule.{hand_in, first_hand, other_hands}
use Rattle.pawk_board.specs.Views.{fresh}
use Rattle.std.proofs.lemmas.List.{replicate-append-replicate}
use Rattle.pawk_board.proofs.Moves.{begins, deals, one_hand, more_left}
use Rattle.pawk_board.proofs.board.Board.new.Goals as goal

pub of_words-requires : goal.of_words-requires
of_words-requires c = begins _

pub split_seat-seat-requires : goal.split_seat-seat-requires
split_seat-seat-requires c = (c.loop.invariant.board, search rules, deals _ _ _)

pub invariant_of-push : goal.invariant_of-push
invariant_of-push c =
    let v : c.loop.rest.me.0 ≡ blank ∷ replicate (c.args.workers - (c.loop.counter + 1)) blank = ap (λ m. m.0) c.loop.invariant.left ∙ more_left _ _ c.loop-test.true in
    one_hand _ blank (c.split_seat-seat.ensures.4 ∙ ap (λ (l : List Hand). (first_hand l, [])) v)

pub loop-preserved : goal.loop-preserved
loop-preserved c =
    let v : c.loop.rest.me.0 ≡ blank ∷ replicate (c.args.workers - (c.loop.counter + 1)) blank = ap (λ m. m.0) c.loop.invariant.left ∙ more_left _ _ c.loop-test.true in
    let none = ap (λ m. m.1) c.loop.invariant.left in
    record {
      board = c.split_seat-seat.ensures.0 ∙ c.loop.invariant.board;
      left = c.split_seat-seat.ensures.2 ∙ (λ i. (other_hands (v i), none i));
      seats = (let one : Rattle.pawk_board.specs.contracts.board.BoardSeat.the_view (record { seat = c.split_seat-seat.result }) ≡ fresh c.in_ok-table.table.shared.table_id =
          (let board = c.split_seat-seat.ensures.3 ∙ c.loop.invariant.board in
          let hand = ap (λ m. hand_in m.0) c.split_seat-seat.ensures.4 ∙ ap (λ (l : List Hand). hand_in (first_hand l)) v in
          λ i. record { board = board i; hand = hand i }) in
          c.in_ok-push.ensures.items ∙ ((λ i. c.loop.invariant.seats i ++ one i ∷ []) ∙ replicate-append-replicate c.loop.counter 1 (fresh c.in_ok-table.table.shared.table_id)));
    }

pub returns-clause-seats : goal.returns-clause-seats
returns-clause-seats c =
    let all : c.loop.counter ≡ c.args.workers = omega arith in
    c.loop.invariant.seats ∙ ap (λ (k : ℕ). replicate k (fresh c.in_ok-table.table.shared.table_id)) all
