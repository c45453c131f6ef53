use Rattle.std.proofs.Common.{◌≡◌, ◌+◌, ◌≤◌, ◌^◌, length}
use Rattle.pawk_input.specs.Input.{files_of, total_size}
use Rattle.pawk_input.proofs.files.are_limited.Given as goal

abbrev pub invariant-loop-file : goal.invariant-loop-file
invariant-loop-file l =
    (l.total + total_size (files_of l.rest) ≡ total_size (files_of l.fn.files)) × (l.total ≤ 2 ^ 62)

abbrev pub decreases-loop-file : goal.decreases-loop-file
decreases-loop-file l = length l.rest
