use Rattle.std.proofs.Common.{rules, ◌≡◌, ℕ, [], ◌∷◌, ◌++◌, List, All, length, sym, ap, ◌∙◌, subst, append_assoc}
use Rattle.std.proofs.lemmas.List.{append-nil, nil_from_length, map-append, length-map}
use Rattle.std.proofs.lemmas.List.Elements.{All-same, All-head, All-tail}
use Rattle.pawk_board.specs.declared.hand.Hand.{Hand}
use Rattle.pawk_board.specs.declared.board.BoardSeat.{BoardSeat}
use Rattle.pawk_board.specs.History.{Lawful}
use Rattle.pawk_board.specs.Views.{hands_in}
use Rattle.pawk_board.proofs.Histories.{each_once, done_means_all, past_means_told}
use Rattle.pawk_board.proofs.Moves.{enters, joins, ends}
use Rattle.pawk_board.proofs.board.Board.finish.Goals as goal
use Rattle.pawk_board.proofs.board.Board.finish.Goals.{After-new}

pub load_new_seat-all-requires : goal.load_new_seat-all-requires
load_new_seat-all-requires c = (search rules, enters _ _)

pub loop-seat-init : goal.loop-seat-init
loop-seat-init c = record {
  board = c.load_new_seat-all.ensures.0;
  hands = c.load_new_seat-all.ensures.2;
  left = (let rest = c.into_iter-seat-iterator.ensures.into_iter_gives.0 in
      let id = ap (λ v. v.id) c.self.view_is in
      All-same (λ (s : BoardSeat). s.board ≡ c.self.inside.table.shared.table_id) _ _ rest (subst (λ z. All (λ (s : BoardSeat). s.board ≡ z) c.args.seats.items) (sym id) c.requires.board));
  seats = c.into_iter-seat-iterator.ensures.into_iter_gives.0;
}

pub join_seat-requires : goal.join_seat-requires
join_seat-requires c =
    let P = λ (s : BoardSeat). s.board ≡ c.self.inside.table.shared.table_id in
    let left : All P (c.in-Some.seat ∷ c.next.new.self.rest.items) = All-same P _ _ (sym c.in-Some.ensures.steps.0) c.loop-seat.invariant.left in
    (search rules, ap (λ v. v.board) c.seat.view_is ∙ All-head P _ _ left, ap (λ m. m.1) c.seat.invariant, search rules, joins _ _ _ _ _)

pub loop-seat-preserved : goal.loop-seat-preserved
loop-seat-preserved c =
    let P = λ (s : BoardSeat). s.board ≡ c.self.inside.table.shared.table_id in
    let steps = c.in-Some.ensures.steps.0 in
    let left : All P (c.in-Some.seat ∷ c.next.new.self.rest.items) = All-same P _ _ (sym steps) c.loop-seat.invariant.left in
    record {
      board = c.join_seat.ensures.0 ∙ c.loop-seat.invariant.board;
      hands = (let first = ap (λ m. m.0) c.loop-seat.invariant.hands in
          let none = ap (λ m. m.1) c.loop-seat.invariant.hands in
          let second : c.seat.inside.seat.me.0 ≡ c.in-Some.seat.hand ∷ [] = ap (λ m. m.0) c.seat.invariant ∙ ap (λ v. v.hand ∷ []) c.seat.view_is in
          c.join_seat.ensures.2 ∙ (λ i. (first i ++ second i, none i)) ∙ ap (λ (l : List Hand). (l, [])) (sym (map-append (λ (s : BoardSeat). s.hand) c.loop-seat.yielded (c.in-Some.seat ∷ []))));
      left = All-tail P _ _ left;
      seats = append_assoc c.loop-seat.yielded (c.in-Some.seat ∷ []) c.next.new.self.rest.items ∙ (ap (λ l. c.loop-seat.yielded ++ l) (sym steps) ∙ c.loop-seat.invariant.seats);
    }

-- the words at the end, and the hands of the seats that came back
lawful_at_end : (c : After-new) → Lawful c.args.self.chunks c.new.result.counter c.new.result.stop (hands_in c.args.seats.items)
lawful_at_end c =
    let key = c.self.inside.table.shared.key in
    let items = c.args.seats.items in
    let rest = c.loop-seat.seat-iterator.rest in
    let counter = c.word-counter.result in
    let stop = c.word-stop.result in
    let none : rest.items ≡ [] = nil_from_length rest.items (sym rest.ok.0 ∙ c.in-None.ensures.steps.0) in
    let whole : c.loop-seat.yielded ≡ items = sym (append-nil c.loop-seat.yielded) ∙ (ap (λ l. c.loop-seat.yielded ++ l) (sym none) ∙ c.loop-seat.invariant.seats) in
    let hands : c.loop-seat.all.me.0 ≡ hands_in items = ap (λ m. m.0) c.loop-seat.invariant.hands ∙ ap hands_in whole in
    let count : length (hands_in items) ≡ key.workers = length-map items (λ (s : BoardSeat). s.hand) ∙ (sym c.args.seats.ok.0 ∙ (c.requires.all ∙ (sym (ap (λ v. v.workers) c.self.view_is) ∙ sym c.self.invariant.workers_are))) in
    let lawful : Lawful key.chunks counter stop c.loop-seat.all.me.0 = ends key _ _ _ _ _ _ c.close_with-closed.ensures.values.2 (ap length hands ∙ count) c.word-counter.ensures c.word-stop.ensures in
    let given : key.chunks ≡ c.args.self.chunks = c.self.invariant.chunks_are ∙ ap (λ v. v.chunks) c.self.view_is in
    subst (λ (n : ℕ). Lawful c.args.self.chunks n c.new.result.stop (hands_in items)) (sym c.new.ensures.counter)
    (subst (λ (n : ℕ). Lawful c.args.self.chunks counter n (hands_in items)) (sym c.new.ensures.stop)
    (subst (Lawful c.args.self.chunks counter stop) hands (subst (λ (k : ℕ). Lawful k counter stop c.loop-seat.all.me.0) given lawful)))

pub returns-clause-lawful : goal.returns-clause-lawful
returns-clause-lawful c = lawful_at_end c

pub returns-clause-once : goal.returns-clause-once
returns-clause-once c = each_once _ _ _ _ (lawful_at_end c)

pub returns-clause-done : goal.returns-clause-done
returns-clause-done c = done_means_all _ _ _ _ (lawful_at_end c)

pub returns-clause-past : goal.returns-clause-past
returns-clause-past c = past_means_told _ _ _ _ (lawful_at_end c)
