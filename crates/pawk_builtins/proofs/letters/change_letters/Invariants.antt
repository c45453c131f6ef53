use Rattle.std.proofs.Common.{◌≡◌, ◌++◌, map, take, drop}
use Rattle.pawk_store.specs.Builtins.{letter_in}
use Rattle.pawk_builtins.proofs.letters.change_letters.Given as goal

abbrev pub invariant-loop-byte : goal.invariant-loop-byte
invariant-loop-byte l = l.bytes ≡ map (letter_in l.case) (take l.byte-index l.initial.bytes) ++ drop l.byte-index l.initial.bytes
