-- Expressions that were read.
use Rattle.std.specs.Prelude.{List, [], ◌∷◌, map}
use Rattle.pawk_lex.specs.Bytes.{Text}
use Rattle.pawk_lex.specs.declared.token.Token.{Token}
use Rattle.pawk_lex.specs.declared.refusal.SyntaxRefusal.{SyntaxRefusal}
use Rattle.pawk_lex.specs.declared.refusal.SyntaxRefusal.TheVariants as refusal
use Rattle.pawk_lex.specs.Tokens.{Tok, tok}
use Rattle.pawk_ere_syntax.specs.Pattern.{Pattern}
use Rattle.pawk_ere_syntax.specs.Tokens.{SpellsEre}

abbrev pub values : List Token → List Tok
values = map (λ t. tok t.value)

-- the text spells an expression
abbrev pub IsExpression : Text → Type 0
IsExpression x = (e : Pattern) × SpellsEre x e

-- each of the texts does
abbrev pub AreExpressions : List Text → Type 0
AreExpressions [] = Unit {0}
AreExpressions (x ∷ xs) = IsExpression x × AreExpressions xs

-- a refusal other than for memory comes only where P does not hold
abbrev pub Denies : SyntaxRefusal → Type 0 → Type 0
Denies (refusal.At why place) P = P → ⊥
Denies refusal.Memory P = Unit {0}
