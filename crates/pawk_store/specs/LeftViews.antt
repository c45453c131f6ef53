-- How a part of a run is left, as the code has it.
use Rattle.pawk_store.specs.Records.{Left as Leaving, through, next_file, exit, fault, clash}
use Rattle.pawk_store.specs.declared.left.Left.{Left}
use Rattle.pawk_store.specs.declared.left.Left.TheVariants as left

abbrev pub left_view : Left → Leaving
left_view left.Through = through
left_view left.NextFile = next_file
left_view (left.Exit n) = exit n
left_view (left.Fault f) = fault f
left_view left.Clash = clash
