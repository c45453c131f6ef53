use Rattle.std.proofs.Common.{◌≡◌, length, ◌-◌, ◌+◌}
use Rattle.pawk_syntax_tree.specs.Parse.{expr, climb}
use Rattle.pawk_syntax_parse.specs.Reads.{input, tree_of}
use Rattle.pawk_syntax_parse.proofs.expression.Grammar.climb.Given as goal

abbrev pub invariant-loop-turn : goal.invariant-loop-turn
invariant-loop-turn g l =
    climb (expr l.self.depth) l.compares (length (input l.fn.ts) + 1) l.least l.fn.first.1 (tree_of l.fn.first.0) (input l.fn.ts) ≡ climb (expr l.self.depth) l.compares (l._turn-end - l._turn) l.least l.top (tree_of l.left) (input l.ts)
