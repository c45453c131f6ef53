-- Brackets that are open: round, square and curly ones.
use Rattle.std.specs.Prelude.{ℕ, suc, ◌-◌, Bool, true, ◌&&◌, nat_le, List, [], ◌∷◌, map}
use Rattle.pawk_lex.specs.declared.token.Mark.TheVariants as m
use Rattle.pawk_lex.specs.declared.token.Token.{Token}
use Rattle.pawk_lex.specs.Tokens.{Tok, tok, mark}

-- the most brackets that may be open at once
abbrev pub most_open : ℕ
most_open = 500

-- how many are open after this token, of which n were before it
abbrev pub open_after : ℕ → Tok → ℕ
open_after n (mark m.LeftParenthesis) = suc n
open_after n (mark m.LeftBracket) = suc n
open_after n (mark m.LeftBrace) = suc n
open_after n (mark m.RightParenthesis) = n - 1
open_after n (mark m.RightBracket) = n - 1
open_after n (mark m.RightBrace) = n - 1
open_after n _ = n

-- no more are open after any of these tokens, before which n were
unfoldable pub are_few : ℕ → List Tok → Bool
are_few n [] = true
are_few n (x ∷ ts) = nat_le (open_after n x) most_open && are_few (open_after n x) ts

abbrev pub values : List Token → List Tok
values = map (λ t. tok t.value)
