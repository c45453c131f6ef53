-- The tokens of a text: awk, "Regular Expressions", and XBD 9.4, Extended Regular Expressions.
use Rattle.std.specs.Prelude.{◌≡◌, ℕ, ◌==◌, ◌≤◌, ◌<◌, ◌⊎◌, Bool, Option, Some, None, List, [], ◌∷◌, if◌then◌else◌}
use Rattle.pawk_ere_syntax.specs.declared.token.EreToken.{EreToken}
use Rattle.pawk_ere_syntax.specs.declared.token.EreToken.TheVariants.{Leaf, Times, Bar, Open, Close, Caret, Dollar}
use Rattle.pawk_ere_syntax.specs.Pattern.{Pattern, Empty}
use Rattle.pawk_ere_syntax.specs.Bounds.{bound_at}
use Rattle.pawk_ere_syntax.specs.Escapes.{escape_at}
use Rattle.pawk_ere_syntax.specs.Sets.{all_bytes, only}
use Rattle.pawk_ere_syntax.specs.Brackets.{bracket_at}
use Rattle.pawk_ere_syntax.specs.Limits.{greatest_size}
use Rattle.pawk_ere_syntax.specs.Grammar.{Alt, Derives, tokens_of, size}

abbrev pub byte_of : Option (ℕ × List ℕ) → Option (EreToken × List ℕ)
byte_of None = None
byte_of (Some x) = Some (Leaf (record { members = only x.0 }), x.1)

abbrev pub set_of : Option (List Bool × List ℕ) → Option (EreToken × List ℕ)
set_of None = None
set_of (Some x) = Some (Leaf (record { members = x.0 }), x.1)

-- the first token, and what follows
unfoldable pub token_at : List ℕ → Option (EreToken × List ℕ)
token_at [] = None
token_at (c ∷ rest) =
    if c == 94 then Some (Caret, rest) else if c == 36 then Some (Dollar, rest) else if c == 124 then Some (Bar, rest)
    else if c == 40 then Some (Open, rest) else if c == 41 then Some (Close, rest)
    else if c == 42 then Some (Times 0 None, rest) else if c == 43 then Some (Times 1 None, rest) else if c == 63 then Some (Times 0 (Some 1), rest)
    else if c == 46 then Some (Leaf (record { members = all_bytes }), rest)
    else if c == 92 then byte_of (escape_at rest)
    else if c == 123 then bound_at rest
    else if c == 91 then set_of (bracket_at rest)
    else Some (Leaf (record { members = only c }), rest)

-- the text is cut into these tokens
abbrev pub Lexes : List ℕ → List EreToken → Type 0
Lexes bytes [] = bytes ≡ []
Lexes bytes (t ∷ ts) = (rest : List ℕ) × (token_at bytes ≡ Some (t, rest)) × Lexes rest ts

-- the text spells the expression: it is nothing at all, or its tokens are those of a derived one; and the size is within the limit
pub record SpellsEre (bytes : List ℕ) (e : Pattern) : Type 0 where
  pub tokens : Lexes bytes (tokens_of e)
  pub form : (e ≡ Empty) ⊎ Derives Alt e
  pub small : size e ≤ greatest_size

-- the text spells no expression
abbrev pub SpellsNone : List ℕ → Type 0
SpellsNone bytes = (e : Pattern) → SpellsEre bytes e → ⊥

-- the text has the form of an expression, whatever its size
abbrev pub HasForm : List ℕ → Type 0
HasForm bytes = (e : Pattern) × Lexes bytes (tokens_of e) × Derives Alt e

-- the text has the form of an expression that is larger than the greatest size
abbrev pub IsTooLarge : List ℕ → Type 0
IsTooLarge bytes = (e : Pattern) × Lexes bytes (tokens_of e) × Derives Alt e × (greatest_size < size e)
