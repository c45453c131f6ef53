use Rattle.std.proofs.Common.{rules, ◌≡◌, length, All, ◌∷◌, sym, ap, ◌∙◌, subst, arith}
use Rattle.std.proofs.lemmas.List.Elements.{All-same, All-head, All-tail, All-push}
use Rattle.std.specs.declared.thread.PromisedHandle.{PromisedHandle}
use Rattle.pawk_board.specs.Views.{SeatView}
use Rattle.pawk_workers.proofs.labour.in_scope.Goals as goal

pub loop-handle-preserved : goal.loop-handle-preserved
loop-handle-preserved g c =
    let K = λ (h : PromisedHandle g.row.S.Denot g.row.L.Denot). h.promise ≡ c.args.task.now in
    let W = g.L.Promise.kept_by c.args.task.now in
    let handle = c.in-Some-handle.handle in
    let steps = c.in-Some-handle.ensures.steps.0 in
    let left : All K (handle ∷ c.next-in-loop-handle.new.self.rest.items) = All-same K _ _ (sym steps) c.loop-handle.invariant.kept in
    let done : W c.join.result = subst (λ t. g.L.Promise.kept_by t c.join.result) (All-head K _ _ left) c.join.ensures in
    record {
      kept = All-tail K _ _ left;
      room = (let long = ap length steps in let len = c.push_reserved-in-loop-handle.ensures.len in let was = c.loop-handle.invariant.room in omega arith);
      some = (let len = c.push_reserved-in-loop-handle.ensures.len in let was = c.loop-handle.invariant.some in omega arith);
      space = c.push_reserved-in-loop-handle.ensures.capacity ∙ c.loop-handle.invariant.space;
      shifts = subst (All W) (sym c.push_reserved-in-loop-handle.ensures.items) (All-push W c.loop-handle.shifts.items c.join.result c.loop-handle.invariant.shifts done);
    }

pub loop-seat-preserved-in-Ok-started : goal.loop-seat-preserved-in-Ok-started
loop-seat-preserved-in-Ok-started g c =
    let P = λ (s : SeatView). s ≡ g.L.Labour.first c.args.task.now in
    let K = λ (h : PromisedHandle g.row.S.Denot g.row.L.Denot). h.promise ≡ c.args.task.now in
    let steps = c.in-Some-seat.ensures.steps.0 in
    let left : All P (c.in-Some-seat.seat ∷ c.next.new.self.rest.items) = All-same P _ _ (sym steps) c.loop-seat.invariant.seats in
    record {
      seats = All-tail P _ _ left;
      room = (let long = ap length steps in let len = c.push_reserved.ensures.len in let was = c.loop-seat.invariant.room in omega arith);
      space = c.push_reserved.ensures.capacity ∙ c.loop-seat.invariant.space;
      space_of_shifts = c.loop-seat.invariant.space_of_shifts;
      kept = subst (All K) (sym c.push_reserved.ensures.items) (All-push K c.loop-seat.handles.items c.in-Ok-started.handle c.loop-seat.invariant.kept c.in-Ok-started.ensures.ok);
      shifts = c.loop-seat.invariant.shifts;
    }

pub spawn_scoped_with-requires-asks-labour-requires : goal.spawn_scoped_with-requires-asks-labour-requires
spawn_scoped_with-requires-asks-labour-requires g c κs within =
    let P = λ (s : SeatView). s ≡ g.L.Labour.first c.args.task.now in
    let steps = c.in-Some-seat.ensures.steps.0 in
    let left : All P (c.in-Some-seat.seat ∷ c.next.new.self.rest.items) = All-same P _ _ (sym steps) c.loop-seat.invariant.seats in
    let same = sym c.in-Err.ensures.err in
    λ _ _ _ _ _ _. (
      subst (λ f. g.L.Labour.IsReady f.0.now) same c.requires.ready,
      subst (λ f. f.2 ≡ g.L.Labour.first f.0.now) same (All-head P _ _ left),
    )

pub loop-seat-preserved : goal.loop-seat-preserved
loop-seat-preserved g c =
    let P = λ (s : SeatView). s ≡ g.L.Labour.first c.args.task.now in
    let W = g.L.Promise.kept_by c.args.task.now in
    let steps = c.in-Some-seat.ensures.steps.0 in
    let left : All P (c.in-Some-seat.seat ∷ c.next.new.self.rest.items) = All-same P _ _ (sym steps) c.loop-seat.invariant.seats in
    let done : W c.spawn_scoped_with.result = search rules in
    record {
      seats = All-tail P _ _ left;
      room = (let long = ap length steps in let len = c.push_reserved-in-Err.ensures.len in let was = c.loop-seat.invariant.room in omega arith);
      space = c.loop-seat.invariant.space;
      space_of_shifts = c.push_reserved-in-Err.ensures.capacity ∙ c.loop-seat.invariant.space_of_shifts;
      kept = c.loop-seat.invariant.kept;
      shifts = subst (All W) (sym c.push_reserved-in-Err.ensures.items) (All-push W c.loop-seat.shifts.items c.spawn_scoped_with.result c.loop-seat.invariant.shifts done);
    }

pub loop-handle-init : goal.loop-handle-init
loop-handle-init g c =
    let K = λ (h : PromisedHandle g.row.S.Denot g.row.L.Denot). h.promise ≡ c.args.task.now in
    let W = g.L.Promise.kept_by c.args.task.now in
    let gives = sym c.into_iter-handle-iterator.ensures.into_iter_gives.0 in
    record {
      kept = subst (All K) gives c.loop-seat.invariant.kept;
      room = (let len = c.push_reserved-2.ensures.len in let was = c.loop-seat.invariant.room in let long = ap length gives in omega arith);
      some = (let len = c.push_reserved-2.ensures.len in omega arith);
      space = c.push_reserved-2.ensures.capacity ∙ c.loop-seat.invariant.space_of_shifts;
      shifts = subst (All W) (sym c.push_reserved-2.ensures.items) (All-push W c.loop-seat.shifts.items c.labour.result c.loop-seat.invariant.shifts c.labour.ensures);
    }
