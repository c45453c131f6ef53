use Rattle.pawk_syntax_parse.proofs.expression.+expr.Given as goal

abbrev pub decreases-expr : goal.decreases-expr
decreases-expr l = l.depth
