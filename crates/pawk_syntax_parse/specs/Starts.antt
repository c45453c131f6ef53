-- How tight an operand may be, by the token that it begins with.
use Rattle.std.specs.Prelude.{ℕ, List, [], ◌∷◌}
use Rattle.pawk_lex.specs.declared.token.Mark.{Mark}
use Rattle.pawk_lex.specs.declared.token.Mark.TheVariants as m
use Rattle.pawk_lex.specs.Tokens.{Tok}
use Rattle.pawk_lex.specs.Tokens as t

abbrev pub mark_level : Mark → ℕ
mark_level m.Dollar = 14
mark_level m.LeftParenthesis = 13
mark_level m.PlusPlus = 11
mark_level m.MinusMinus = 11
mark_level m.Not = 9
mark_level m.Plus = 9
mark_level m.Minus = 9
mark_level _ = 0

-- the tightest level of an operand that begins with this token
abbrev pub tightest : Tok → ℕ
tightest (t.name x) = 14
tightest (t.mark s) = mark_level s
tightest _ = 13

-- the tightest level of an operand that comes next
abbrev pub tightest_next : List Tok → ℕ
tightest_next [] = 0
tightest_next (x ∷ ts) = tightest x
