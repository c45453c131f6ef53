use Rattle.std.proofs.Common.{◌≡◌, ◌≤◌, length, All, vec_len, ◌+◌}
use Rattle.std.specs.Vec.{vec_capacity}
use Rattle.pawk_board.specs.Views.{SeatView}
use Rattle.pawk_workers.proofs.labour.in_scope.Given as goal

abbrev pub invariant-loop-seat : goal.invariant-loop-seat
invariant-loop-seat g l = record {
  seats : All (λ (s : SeatView). s ≡ g.L.Labour.first l.task) l.seat-iterator.rest.items;
  room : vec_len l.shifts + vec_len l.handles + length l.seat-iterator.rest.items + 1 ≤ l.count;
  space : vec_capacity l.handles ≡ l.count;
  space_of_shifts : vec_capacity l.shifts ≡ l.count;
  kept : All (λ h. h.promise ≡ l.task) l.handles.items;
  shifts : All (g.L.Promise.kept_by l.task) l.shifts.items;
}

abbrev pub invariant-loop-handle : goal.invariant-loop-handle
invariant-loop-handle g l = record {
  kept : All (λ h. h.promise ≡ l.task) l.handle-iterator.rest.items;
  room : vec_len l.shifts + length l.handle-iterator.rest.items ≤ l.count;
  some : 1 ≤ vec_len l.shifts;
  space : vec_capacity l.shifts ≡ l.count;
  shifts : All (g.L.Promise.kept_by l.task) l.shifts.items;
}
