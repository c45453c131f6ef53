use Rattle.std.proofs.Common.{◌≡◌, ◌≤◌, take}
use Rattle.pawk_input.specs.Input.{files_of}
use Rattle.pawk_workers.specs.Sizes.{blocks_in}
use Rattle.pawk_workers.proofs.place.FilePlace.seek.Given as goal

abbrev pub invariant-loop-file : goal.invariant-loop-file
invariant-loop-file l = record {
  before : l.before ≡ blocks_in l.block (take l.file (files_of l.input));
  ahead : l.before ≤ l.number;
}
