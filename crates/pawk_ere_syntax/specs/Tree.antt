-- The trees of the program as expressions.
use Rattle.pawk_ere_syntax.specs.declared.expression.Expression.{Expression}
use Rattle.pawk_ere_syntax.specs.declared.expression.Expression.TheVariants as expression
use Rattle.pawk_ere_syntax.specs.Pattern as pattern
use Rattle.pawk_ere_syntax.specs.Pattern.{Pattern}

-- the expression of a tree, without where its parts lie in memory
abbrev pub pattern_of : Expression → Pattern
pattern_of expression.Empty = pattern.Empty
pattern_of expression.Start = pattern.Start
pattern_of expression.End = pattern.End
pattern_of (expression.Bytes set) = pattern.Bytes set.value.members
pattern_of (expression.Group' p a) = pattern.Group (pattern_of a)
pattern_of (expression.Repeat' p a least most) = pattern.Repeat (pattern_of a) least most
pattern_of (expression.Sequence' p a q b) = pattern.Sequence (pattern_of a) (pattern_of b)
pattern_of (expression.Either' p a q b) = pattern.Either (pattern_of a) (pattern_of b)
