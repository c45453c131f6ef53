use Rattle.std.proofs.Common.{◌≡◌, length, ◌-◌}
use Rattle.pawk_syntax_tree.specs.Parse.{expr, list_from}
use Rattle.pawk_syntax_parse.specs.Reads.{input, trees_of}
use Rattle.pawk_syntax_parse.proofs.expression.Grammar.list.Given as goal

abbrev pub invariant-loop-turn : goal.invariant-loop-turn
invariant-loop-turn g l =
    list_from (expr l.self.depth) l.compares l.function (length (input l.fn.ts)) (trees_of l.fn.front) (input l.fn.ts) ≡ list_from (expr l.self.depth) l.compares l.function (l._turn-end - l._turn) (trees_of l.all) (input l.ts)
