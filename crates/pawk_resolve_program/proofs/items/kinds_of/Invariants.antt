use Rattle.std.proofs.Common.{◌≡◌, map, take}
use Rattle.pawk_resolve.specs.ScopeViews.{globals_view}
use Rattle.pawk_resolve.specs.ResolvedPrograms.{kind_of}
use Rattle.pawk_resolve_program.proofs.items.kinds_of.Given as goal

abbrev pub invariant-loop-name : goal.invariant-loop-name
invariant-loop-name l = l.kinds.items ≡ map (λ x. kind_of ((globals_view l.globals).kinds (l.number, x.text.items))) (take l.name-index l.names)
