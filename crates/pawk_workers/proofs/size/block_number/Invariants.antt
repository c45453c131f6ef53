use Rattle.std.proofs.Common.{◌≡◌, take}
use Rattle.pawk_input.specs.Input.{files_of}
use Rattle.pawk_workers.specs.Sizes.{blocks_in}
use Rattle.pawk_workers.proofs.size.block_number.Given as goal

abbrev pub invariant-loop-file : goal.invariant-loop-file
invariant-loop-file l = l.number ≡ blocks_in l.block (take l.file (files_of l.input))
