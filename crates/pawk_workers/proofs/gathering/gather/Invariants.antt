use Rattle.std.proofs.Common.{◌≡◌, ◌<◌, map, All, IsOk, vec_len}
use Rattle.std.specs.List.{flat_map}
use Rattle.pawk_workers.specs.Counting.{Numbered, Enters, numbered_of}
use Rattle.pawk_workers.specs.declared.shifts.CountShift.{CountShift}
use Rattle.pawk_workers.proofs.gathering.gather.Given as goal

abbrev pub invariant-loop-shift : goal.invariant-loop-shift
invariant-loop-shift l = record {
  within : All (λ (s : CountShift). All (λ (r : Numbered). r.0 < l.blocks) (numbered_of s)) l.shift-iterator.rest.items;
  seats : l.seats.items ≡ map (λ (s : CountShift). s.seat) l.yielded;
  len : vec_len l.counts ≡ l.blocks;
  counts : Enters (flat_map numbered_of l.yielded) l.counts.items;
  all : All (λ (s : CountShift). IsOk s.counts) l.yielded;
}
