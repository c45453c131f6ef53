-- The operators and functions that words of code stand for.
use Rattle.std.specs.Prelude.{Bool, true, false}
use Rattle.pawk_lex.specs.declared.token.Builtin.{Builtin}
use Rattle.pawk_lex.specs.declared.token.Builtin.TheVariants as b
use Rattle.pawk_value.specs.declared.arithmetic.Op.{Op}
use Rattle.pawk_value.specs.declared.arithmetic.Op.TheVariants as op
use Rattle.pawk_syntax_tree.specs.declared.tree.Single.{Single}
use Rattle.pawk_syntax_tree.specs.declared.tree.Single.TheVariants as single
use Rattle.pawk_syntax_tree.specs.declared.tree.Double.{Double}
use Rattle.pawk_syntax_tree.specs.declared.tree.Double.TheVariants as double
use Rattle.pawk_code.specs.declared.word.Sign.{Sign}
use Rattle.pawk_code.specs.declared.word.Sign.TheVariants as sign
use Rattle.pawk_code.specs.declared.word.Step.{Step}
use Rattle.pawk_code.specs.declared.word.Step.TheVariants as by
use Rattle.pawk_code.specs.declared.word.Relation.{Relation}
use Rattle.pawk_code.specs.declared.word.Relation.TheVariants as relation
use Rattle.pawk_code.specs.declared.word.ReplacedMatches.{ReplacedMatches}
use Rattle.pawk_code.specs.declared.word.ReplacedMatches.TheVariants as count
use Rattle.pawk_code.specs.declared.word.Case.{Case}
use Rattle.pawk_code.specs.declared.word.Case.TheVariants as case

abbrev pub sign_word : Sign → Single
sign_word sign.Plus = single.Plus
sign_word sign.Minus = single.Minus

abbrev pub step_word : Step → Single
step_word by.IncrementBefore = single.IncrementBefore
step_word by.DecrementBefore = single.DecrementBefore
step_word by.IncrementAfter = single.IncrementAfter
step_word by.DecrementAfter = single.DecrementAfter

abbrev pub arithmetic_word : Op → Double
arithmetic_word op.Add = double.Add
arithmetic_word op.Subtract = double.Subtract
arithmetic_word op.Multiply = double.Multiply
arithmetic_word op.Divide = double.Divide
arithmetic_word op.Remainder = double.Remainder
arithmetic_word op.Power = double.Power

abbrev pub change_word : Op → Double
change_word op.Add = double.AddAssign
change_word op.Subtract = double.SubtractAssign
change_word op.Multiply = double.MultiplyAssign
change_word op.Divide = double.DivideAssign
change_word op.Remainder = double.RemainderAssign
change_word op.Power = double.PowerAssign

-- an addition whose value is dropped
abbrev pub add_word : Sign → Double
add_word sign.Plus = double.AddAssign
add_word sign.Minus = double.SubtractAssign

abbrev pub relation_word : Relation → Double
relation_word relation.Less = double.Less
relation_word relation.LessEqual = double.LessEqual
relation_word relation.Equal = double.Equal
relation_word relation.NotEqual = double.NotEqual
relation_word relation.Greater = double.Greater
relation_word relation.GreaterEqual = double.GreaterEqual

abbrev pub match_word : Bool → Double
match_word true = double.Match
match_word false = double.NotMatch

abbrev pub count_word : ReplacedMatches → Builtin
count_word count.First = b.Sub
count_word count.All = b.Gsub

abbrev pub case_word : Case → Builtin
case_word case.Lower = b.Tolower
case_word case.Upper = b.Toupper
