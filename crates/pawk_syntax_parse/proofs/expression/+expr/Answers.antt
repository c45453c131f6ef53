use Rattle.std.proofs.Common.{◌≡◌, ap, arith}
use Rattle.pawk_syntax_tree.specs.Parse.{expr}
use Rattle.pawk_syntax_parse.specs.Reads.{input}
use Rattle.pawk_syntax_parse.proofs.Turns.{deeper}
use Rattle.pawk_syntax_parse.proofs.expression.+expr.Goals as goal

pub returns-then-depth-eq0 : goal.returns-then-depth-eq0
unfolding expr
returns-then-depth-eq0 t c _ = let none : c.args.depth ≡ 0 = omega arith in ap (λ n. expr n c.args.compares c.args.least (input c.args.ts.now)) none

pub returns : goal.returns
unfolding expr
returns t c = rw (deeper (λ n. expr n c.args.compares c.args.least (input c.args.ts.now)) c.args.depth (omega arith)) c.phrase.ensures
