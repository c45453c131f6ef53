use Rattle.std.proofs.Common.{◌≡◌, map, take}
use Rattle.pawk_array.specs.Elements.{element_of}
use Rattle.pawk_array.proofs.array.AssociativeArray.elements.Given as goal

abbrev pub invariant-loop-key : goal.invariant-loop-key
invariant-loop-key l = map element_of l.all.items ≡ take l.key-index l.self
