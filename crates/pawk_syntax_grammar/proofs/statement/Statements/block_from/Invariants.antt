use Rattle.std.proofs.Common.{◌≡◌, [], length, ◌-◌}
use Rattle.pawk_syntax_tree.specs.StatementParse.{stmt, block_from}
use Rattle.pawk_syntax_parse.specs.Reads.{input}
use Rattle.pawk_syntax_grammar.specs.Reads.{body_of}
use Rattle.pawk_syntax_grammar.proofs.statement.Statements.block_from.Given as goal

abbrev pub invariant-loop-turn : goal.invariant-loop-turn
invariant-loop-turn g l =
    block_from (stmt l.self.depth) (length (input l.fn.ts)) [] (input l.fn.ts) ≡ block_from (stmt l.self.depth) (l._turn-end - l._turn) (body_of l.all) (input l.ts)
