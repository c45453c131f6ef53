use Rattle.std.proofs.Common.{◌≡◌, [], length, ◌-◌, ◌+◌}
use Rattle.pawk_syntax_tree.specs.ItemParse.{items_from}
use Rattle.pawk_syntax_parse.specs.Reads.{input}
use Rattle.pawk_syntax_grammar.specs.ItemReads.{items_of}
use Rattle.pawk_syntax_grammar.proofs.item.items.Given as goal

abbrev pub invariant-loop-turn : goal.invariant-loop-turn
invariant-loop-turn l = items_from (length (input l.fn.ts) + 1) [] (input l.fn.ts) ≡ items_from (l._turn-end - l._turn) (items_of l.all) (input l.ts)
