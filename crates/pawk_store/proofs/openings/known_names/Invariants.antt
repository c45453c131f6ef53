use Rattle.std.proofs.Common.{take}
use Rattle.pawk_store.specs.Openings.{Knows, texts_of}
use Rattle.pawk_store.proofs.openings.known_names.Given as goal

abbrev pub invariant-loop-name : goal.invariant-loop-name
invariant-loop-name l = Knows l.known (texts_of (take l.name-index l.names))
