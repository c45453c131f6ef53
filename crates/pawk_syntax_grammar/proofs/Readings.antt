-- What the reading of expressions needs.
use Rattle.std.proofs.Common.{◌≡◌, ◌<◌, List, [], ◌∷◌, length, refl, arith}
use Rattle.pawk_lex.specs.Bytes.{Text}
use Rattle.pawk_lex.specs.declared.token.Token.{Token}
use Rattle.pawk_ere_syntax.specs.Tokens.{SpellsNone}
use Rattle.pawk_syntax_grammar.specs.ExpressionReads.{IsExpression, values}
use Rattle.pawk_syntax_grammar.specs.Expressions.{eres}

pub none_is : (x : Text) → SpellsNone x → IsExpression x → ⊥
none_is x none found = none found.0 found.1

-- of no tokens there is none to read
pub of_none : (ts : List Token) → length ts < 1 → eres (values ts) ≡ []
of_none [] low = refl
of_none (x ∷ ts) low = absurd (omega arith)
