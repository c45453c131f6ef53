use Rattle.std.proofs.Common.{refl}
use Rattle.std.proofs.lemmas.List.{map-append}
use Rattle.pawk_syntax_check.proofs.demands.Demands.scalar.Goals as goal

pub returns-clause-demands : goal.returns-clause-demands
returns-clause-demands c = rw (c.in_ok-push.ensures.items, map-append, c.in_ok-variable.ensures.key) refl
