use Rattle.std.proofs.Common.{◌≡◌, ap, arith}
use Rattle.pawk_syntax_tree.specs.StatementParse.{stmt}
use Rattle.pawk_syntax_parse.specs.Reads.{input}
use Rattle.pawk_syntax_parse.proofs.Turns.{deeper}
use Rattle.pawk_syntax_grammar.proofs.statement.+statement.Goals as goal

pub returns-then-depth-eq0 : goal.returns-then-depth-eq0
unfolding stmt
returns-then-depth-eq0 t c _ = let none : c.args.depth ≡ 0 = omega arith in ap (λ n. stmt n (input c.args.ts.now)) none

pub returns : goal.returns
unfolding stmt
returns t c = rw (deeper (λ n. stmt n (input c.args.ts.now)) c.args.depth (omega arith)) c.one.ensures
