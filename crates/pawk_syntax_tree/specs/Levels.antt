-- How operators bind (POSIX.1-2017, awk, "Expressions in awk", table "Expressions in Decreasing Precedence in awk", and
-- the productions of "Grammar"). Each level takes in those that bind tighter:
-- 0 expr, 1 or, 2 and, 3 membership, 4 match, 5 comparison, 6 concatenation, 7 additive, 8 multiplicative, 9 prefixed,
-- 10 power, 11 increment, 12 a primary, 13 a primary that is no lvalue, 14 an lvalue.
use Rattle.std.specs.Prelude.{ℕ, Bool, if◌then◌else◌, nat_le, Option, Some, None}
use Rattle.pawk_lex.specs.declared.token.Mark.{Mark}
use Rattle.pawk_lex.specs.declared.token.Mark.TheVariants as m
use Rattle.pawk_syntax_tree.specs.declared.tree.Single.{Single}
use Rattle.pawk_syntax_tree.specs.declared.tree.Single.TheVariants as single
use Rattle.pawk_syntax_tree.specs.declared.tree.Double.{Double}
use Rattle.pawk_syntax_tree.specs.declared.tree.Double.TheVariants as double
use Rattle.pawk_syntax_tree.specs.declared.levels.Turn.TheVariants as turn
use Rattle.pawk_syntax_tree.specs.declared.levels.Row.{Row}

abbrev pub of_member : ℕ
of_member = 3

abbrev pub of_prefixed : ℕ
of_prefixed = 9

abbrev pub of_increment : ℕ
of_increment = 11

abbrev pub of_primary : ℕ
of_primary = 12

abbrev pub of_value : ℕ
of_value = 13

abbrev pub of_lvalue : ℕ
of_lvalue = 14

-- the level of what an operator makes, and those of its sides
pub record Binding : Type 0 where
  pub level : ℕ
  pub left : ℕ
  pub right : ℕ

abbrev pub binds : ℕ → ℕ → ℕ → Binding
binds k l r = record { level = k; left = l; right = r }

abbrev pub binding : Double → Binding
binding double.Or = binds 1 1 2
binding double.And = binds 2 2 3
binding double.Match = binds 4 5 5
binding double.NotMatch = binds 4 5 5
binding double.Less = binds 5 6 6
binding double.LessEqual = binds 5 6 6
binding double.Equal = binds 5 6 6
binding double.NotEqual = binds 5 6 6
binding double.Greater = binds 5 6 6
binding double.GreaterEqual = binds 5 6 6
binding double.Concatenate = binds 6 6 7
binding double.Add = binds 7 7 8
binding double.Subtract = binds 7 7 8
binding double.Multiply = binds 8 8 9
binding double.Divide = binds 8 8 9
binding double.Remainder = binds 8 8 9
binding double.Power = binds 10 11 9
binding double.Assign = binds 0 14 0
binding double.AddAssign = binds 0 14 0
binding double.SubtractAssign = binds 0 14 0
binding double.MultiplyAssign = binds 0 14 0
binding double.DivideAssign = binds 0 14 0
binding double.RemainderAssign = binds 0 14 0
binding double.PowerAssign = binds 0 14 0

-- the sign of an operator; two expressions side by side have none
abbrev pub sign_of : Double → Option Mark
sign_of double.Or = Some m.Or
sign_of double.And = Some m.And
sign_of double.Match = Some m.Tilde
sign_of double.NotMatch = Some m.NotMatch
sign_of double.Less = Some m.Less
sign_of double.LessEqual = Some m.LessEqual
sign_of double.Equal = Some m.Equal
sign_of double.NotEqual = Some m.NotEqual
sign_of double.Greater = Some m.Greater
sign_of double.GreaterEqual = Some m.GreaterEqual
sign_of double.Concatenate = None
sign_of double.Add = Some m.Plus
sign_of double.Subtract = Some m.Minus
sign_of double.Multiply = Some m.Star
sign_of double.Divide = Some m.Slash
sign_of double.Remainder = Some m.Percent
sign_of double.Power = Some m.Caret
sign_of double.Assign = Some m.Assign
sign_of double.AddAssign = Some m.PlusAssign
sign_of double.SubtractAssign = Some m.MinusAssign
sign_of double.MultiplyAssign = Some m.StarAssign
sign_of double.DivideAssign = Some m.SlashAssign
sign_of double.RemainderAssign = Some m.PercentAssign
sign_of double.PowerAssign = Some m.CaretAssign

-- ---- what a sign does after an operand

abbrev pub joining : Double → Option Row
joining op =
    Some (record { turn = turn.Infix op; level = (binding op).level; left = (binding op).left; right = (binding op).right })

abbrev pub beside : Option Row
beside = Some (record { turn = turn.Beside; level = 6; left = 6; right = 7 })

abbrev pub membership : Option Row
membership = Some (record { turn = turn.Membership; level = 3; left = 3; right = 0 })

abbrev pub choosing : Option Row
choosing = Some (record { turn = turn.Choosing; level = 0; left = 1; right = 0 })

abbrev pub stepping : Single → Option Row
stepping op = Some (record { turn = turn.Postfix op; level = 11; left = 14; right = 0 })

-- The first argument says that `>` is a comparison here; top is the level of the operand. A `++` after an lvalue is its
-- postfix; elsewhere it begins an operand.
abbrev pub row_of_sign : Bool → ℕ → Mark → Option Row
row_of_sign compares top m.Or = joining double.Or
row_of_sign compares top m.And = joining double.And
row_of_sign compares top m.Tilde = joining double.Match
row_of_sign compares top m.NotMatch = joining double.NotMatch
row_of_sign compares top m.Less = joining double.Less
row_of_sign compares top m.LessEqual = joining double.LessEqual
row_of_sign compares top m.Equal = joining double.Equal
row_of_sign compares top m.NotEqual = joining double.NotEqual
row_of_sign compares top m.Greater = if compares then joining double.Greater else None
row_of_sign compares top m.GreaterEqual = joining double.GreaterEqual
row_of_sign compares top m.Plus = joining double.Add
row_of_sign compares top m.Minus = joining double.Subtract
row_of_sign compares top m.Star = joining double.Multiply
row_of_sign compares top m.Slash = joining double.Divide
row_of_sign compares top m.Percent = joining double.Remainder
row_of_sign compares top m.Caret = joining double.Power
row_of_sign compares top m.Assign = joining double.Assign
row_of_sign compares top m.PlusAssign = joining double.AddAssign
row_of_sign compares top m.MinusAssign = joining double.SubtractAssign
row_of_sign compares top m.StarAssign = joining double.MultiplyAssign
row_of_sign compares top m.SlashAssign = joining double.DivideAssign
row_of_sign compares top m.PercentAssign = joining double.RemainderAssign
row_of_sign compares top m.CaretAssign = joining double.PowerAssign
row_of_sign compares top m.In = membership
row_of_sign compares top m.Question = choosing
row_of_sign compares top m.PlusPlus = if nat_le 14 top then stepping single.IncrementAfter else beside
row_of_sign compares top m.MinusMinus = if nat_le 14 top then stepping single.DecrementAfter else beside
row_of_sign compares top m.Not = beside
row_of_sign compares top m.Dollar = beside
row_of_sign compares top m.LeftParenthesis = beside
row_of_sign compares top _ = None
