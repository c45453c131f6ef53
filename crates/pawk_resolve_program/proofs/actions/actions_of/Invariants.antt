use Rattle.std.proofs.Common.{◌≡◌, ◌++◌, map, drop}
use Rattle.std.specs.List.{flat_map}
use Rattle.pawk_syntax_tree.specs.Item.{part}
use Rattle.pawk_code.specs.ProgramViews.{body_view, rule_view}
use Rattle.pawk_resolve.specs.ScopeViews.{globals_view}
use Rattle.pawk_resolve.specs.ResolvedPrograms.{begin_of, rule_of, end_of}
use Rattle.pawk_resolve_program.proofs.actions.actions_of.Given as goal

abbrev pub invariant-loop-item : goal.invariant-loop-item
invariant-loop-item l = record {
  begins :
      map body_view l.actions.begins.items ++ flat_map (begin_of (globals_view l.globals)) (map part (drop l.item-index l.items))
      ≡ flat_map (begin_of (globals_view l.globals)) (map part l.items);
  rules :
      map rule_view l.actions.rules.items ++ flat_map (rule_of (globals_view l.globals)) (map part (drop l.item-index l.items))
      ≡ flat_map (rule_of (globals_view l.globals)) (map part l.items);
  ends :
      map body_view l.actions.ends.items ++ flat_map (end_of (globals_view l.globals)) (map part (drop l.item-index l.items))
      ≡ flat_map (end_of (globals_view l.globals)) (map part l.items);
}
