use Rattle.std.proofs.Common.{◌≡◌, ◌++◌, map, length}
use Rattle.pawk_syntax_grammar.specs.Expressions.{eres}
use Rattle.pawk_syntax_grammar.specs.ExpressionReads.{values, AreExpressions}
use Rattle.pawk_syntax_grammar.proofs.expressions.read_expressions.Given as goal

abbrev pub invariant-loop-rest : goal.invariant-loop-rest
invariant-loop-rest l =
    record {
      texts : map (λ t. t.items) l.texts.items ++ eres (values l.rest) ≡ eres (values l.fn.tokens);
      found : AreExpressions (eres (values l.rest)) → AreExpressions (eres (values l.fn.tokens));
      refused : AreExpressions (eres (values l.fn.tokens)) → AreExpressions (eres (values l.rest));
    }

abbrev pub decreases-loop-rest : goal.decreases-loop-rest
decreases-loop-rest l = length l.rest
