use Rattle.std.proofs.Common.{◌≡◌, length, take}
use Rattle.pawk_store.specs.Outputs.{in_a_row}
use Rattle.pawk_par.proofs.writing.size_of_all.Given as goal

abbrev pub invariant-loop-part : goal.invariant-loop-part
invariant-loop-part l = l.size ≡ length (in_a_row (take l.part-index l.parts))
