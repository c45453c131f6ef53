-- The expression that bytes spell, as a function.
-- POSIX.1-2017, awk, "Regular Expressions"; XBD 9.4, Extended Regular Expressions.
use Rattle.std.specs.Prelude.{ℕ, zero, suc, ◌*◌, Option, Some, None, List, [], ◌∷◌, nat_le, if◌then◌else◌}
use Rattle.std.specs.Option.{option_map}
use Rattle.pawk_ere_syntax.specs.declared.token.EreToken.{EreToken}
use Rattle.pawk_ere_syntax.specs.Pattern.{Pattern, Empty}
use Rattle.pawk_ere_syntax.specs.Tokens.{token_at}
use Rattle.pawk_ere_syntax.specs.Machine.{run, start}
use Rattle.pawk_ere_syntax.specs.Grammar.{size}
use Rattle.pawk_ere_syntax.specs.Limits.{greatest_size}

-- the first token, and those of what follows
abbrev pub onto_tokens : (List ℕ → Option (List EreToken)) → Option (EreToken × List ℕ) → Option (List EreToken)
onto_tokens go None = None
onto_tokens go (Some x) = option_map (λ ts. x.0 ∷ ts) (go x.1)

-- the tokens of a text, if it has at most `most`
unfoldable pub tokens_within : ℕ → List ℕ → Option (List EreToken)
tokens_within most [] = Some []
tokens_within zero (b ∷ s) = None
tokens_within (suc most) (b ∷ s) = onto_tokens (tokens_within most) (token_at (b ∷ s))

-- an expression, if its size is within the limit
abbrev pub if_small : Option Pattern → Option Pattern
if_small None = None
if_small (Some e) = if nat_le (size e) greatest_size then Some e else None

-- the expression of tokens
abbrev pub of_tokens : Option (List EreToken) → Option Pattern
of_tokens None = None
of_tokens (Some ts) = if_small (run ts start)

-- the expression that bytes spell; one within the limit has at most three times as many tokens as its size
unfoldable pub read_ere : List ℕ → Option Pattern
read_ere [] = Some Empty
read_ere (b ∷ s) = of_tokens (tokens_within (3 * greatest_size) (b ∷ s))
