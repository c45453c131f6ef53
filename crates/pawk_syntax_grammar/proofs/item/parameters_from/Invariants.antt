use Rattle.std.proofs.Common.{◌≡◌, [], length, ◌-◌}
use Rattle.pawk_syntax_tree.specs.ItemParse.{parameters_from}
use Rattle.pawk_syntax_parse.specs.Reads.{input}
use Rattle.pawk_syntax_grammar.specs.ItemReads.{names_of}
use Rattle.pawk_syntax_grammar.proofs.item.parameters_from.Given as goal

abbrev pub invariant-loop-turn : goal.invariant-loop-turn
invariant-loop-turn l = parameters_from (length (input l.fn.ts)) [] (input l.fn.ts) ≡ parameters_from (l._turn-end - l._turn) (names_of l.all) (input l.ts)
