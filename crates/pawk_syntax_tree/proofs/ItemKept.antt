-- Items that tokens derive are sound.
use Rattle.std.proofs.Common.{Bool, List, refl}
use Rattle.pawk_lex.specs.Tokens.{Tok}
use Rattle.pawk_syntax_tree.specs.Statement.{Stmts}
use Rattle.pawk_syntax_tree.specs.StatementCanonical.{AreSoundStmts}
use Rattle.pawk_syntax_tree.specs.Item.{Part}
use Rattle.pawk_syntax_tree.specs.ItemCanonical.{IsSoundPart, AreSoundParts}
use Rattle.pawk_syntax_tree.specs.ItemGrammar.{Action, an_action, Is, a_begin, an_end, a_rule, a_pattern, a_bare_pattern, a_range, a_bare_range, a_function, Items, no_item, an_item, Programs, a_program}
use Rattle.pawk_syntax_tree.proofs.StatementKept.{counts, lists_kept}

action_kept : {ts rest : List Tok} {a : Stmts} → Action ts rest a → AreSoundStmts a
action_kept (an_action gap d) = lists_kept d

part_kept : {ts rest : List Tok} {x : Part} {closes : Bool} → Is ts rest x closes → IsSoundPart x
part_kept (a_begin d) = action_kept d
part_kept (an_end d) = action_kept d
part_kept (a_rule d) = action_kept d
part_kept (a_pattern p d) = (counts p, action_kept d)
part_kept (a_bare_pattern p) = (counts p, ((tt, (refl, (tt, refl, tt), tt)), tt))
part_kept (a_range p gap q d) = (counts p, counts q, action_kept d)
part_kept (a_bare_range p gap q) = (counts p, counts q, ((tt, (refl, (tt, refl, tt), tt)), tt))
part_kept (a_function f ps gap d) = action_kept d

items_kept : {ts : List Tok} {xs : List Part} → Items ts xs → AreSoundParts xs
items_kept no_item = tt
items_kept (an_item d gap ds) = (part_kept d, items_kept ds)

pub program_kept : {ts : List Tok} {xs : List Part} → Programs ts xs → AreSoundParts xs
program_kept (a_program gap ds) = items_kept ds
