use Rattle.std.proofs.Common.{◌≡◌, drop}
use Rattle.pawk_map.specs.Parted.{all_through}
use Rattle.pawk_map.proofs.parts.are_through.Given as goal

abbrev pub invariant-loop-chunk : goal.invariant-loop-chunk
invariant-loop-chunk l = all_through l.results ≡ all_through (drop l.chunk-index l.results)
