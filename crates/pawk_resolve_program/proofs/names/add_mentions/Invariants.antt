use Rattle.std.proofs.Common.{◌≡◌, ◌++◌, drop, map}
use Rattle.std.specs.Prelude.{filter, not}
use Rattle.std.specs.List.{flat_map}
use Rattle.pawk_lex.specs.Vocabulary.{is_among}
use Rattle.pawk_syntax_check.specs.Views.{mention_view}
use Rattle.pawk_resolve.specs.Tables.{texts}
use Rattle.pawk_resolve.specs.ScopeViews.{table_names}
use Rattle.pawk_resolve.specs.ResolvedPrograms.{mentioned}
use Rattle.pawk_resolve_program.proofs.names.add_mentions.Given as goal

abbrev pub invariant-loop-mention : goal.invariant-loop-mention
invariant-loop-mention l =
    texts l.names.items ++ filter (λ x. not (is_among (table_names l.parameters) x)) (flat_map mentioned (map mention_view (drop l.mention-index l.mentions)))
    ≡ texts l.fn.names.items ++ filter (λ x. not (is_among (table_names l.parameters) x)) (flat_map mentioned (map mention_view l.mentions))
