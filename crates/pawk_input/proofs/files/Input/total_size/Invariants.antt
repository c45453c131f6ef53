use Rattle.std.proofs.Common.{◌≡◌, ◌+◌, drop}
use Rattle.pawk_input.specs.Input.{files_of, total_size}
use Rattle.pawk_input.proofs.files.Input.total_size.Given as goal

abbrev pub invariant-loop-file : goal.invariant-loop-file
invariant-loop-file l = l.total + total_size (drop l.file (files_of l.self)) ≡ total_size (files_of l.self)
