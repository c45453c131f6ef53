use Rattle.std.proofs.Common.{◌≡◌, map, All, IsOk}
use Rattle.std.specs.List.{flat_map}
use Rattle.pawk_chunks.specs.declared.shifts.Shift.{Shift}
use Rattle.pawk_chunks.specs.Shifts.{results_of}
use Rattle.pawk_chunks.proofs.gathering.join_shifts.Given as goal

abbrev pub invariant-loop-shift : goal.invariant-loop-shift
invariant-loop-shift l = record {
  seats : l.seats.items ≡ map (λ (s : Shift). s.seat) l.yielded;
  results : l.results.items ≡ flat_map results_of l.yielded;
  all : All (λ (s : Shift). IsOk s.results) l.yielded;
}
