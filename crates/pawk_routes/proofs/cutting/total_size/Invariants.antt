use Rattle.std.proofs.Common.{◌≡◌, take}
use Rattle.pawk_input.specs.Input.{files_of, total_size}
use Rattle.pawk_routes.proofs.cutting.total_size.Given as goal

abbrev pub invariant-loop-file : goal.invariant-loop-file
invariant-loop-file l = l.total ≡ total_size (take l.file (files_of l.input))
