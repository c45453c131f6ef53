use Rattle.std.proofs.Common.{◌≡◌, map, take}
use Rattle.pawk_resolve.specs.Tables.{texts}
use Rattle.pawk_resolve_program.proofs.program.copied.Given as goal

abbrev pub invariant-loop-text : goal.invariant-loop-text
invariant-loop-text l = map (λ x. x.items) l.all.items ≡ texts (take l.text-index l.texts)
