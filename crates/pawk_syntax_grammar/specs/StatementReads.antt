-- What the functions that read statements ensure.
use Rattle.std.specs.Prelude.{ℕ, Option, Result}
use Rattle.std.specs.declared.alloc.Global.{Global}
use denote.Ref.{MutBor}
use Rattle.pawk_lex.specs.declared.refusal.SyntaxRefusal.{SyntaxRefusal}
use Rattle.pawk_syntax_parse.specs.declared.cursor.Cursor.{Cursor}
use Rattle.pawk_syntax_parse.specs.Reads.{input, Gives}
use Rattle.pawk_lex.specs.declared.token.Mark.{Mark}
use Rattle.pawk_lex.specs.declared.token.Mark.TheVariants as m
use Rattle.pawk_syntax_tree.specs.Tree.{Tree}
use Rattle.pawk_syntax_tree.specs.Parse.{Parser, ◌>>=◌, ◌>>◌, pure, sees, expect}
use Rattle.pawk_syntax_tree.specs.StatementParse.{whole, end, maybe, stmt}
use Rattle.pawk_syntax_grammar.specs.declared.body.Body.{Body}
use Rattle.pawk_syntax_grammar.specs.Reads.{body_of}

-- A function value that reads statements to a depth.
pub record Nests (depth : ℕ) (pre : Global → MutBor Cursor → ℕ → Type 0)
    (post : Global → MutBor Cursor → ℕ → Result Body SyntaxRefusal → MutBor Cursor → Type 0) : Type 0 where
  pub callable : (alloc : Global) (old : MutBor Cursor) → pre alloc old depth
  pub reads : (alloc : Global) (old new : MutBor Cursor) (r : Result Body SyntaxRefusal) → post alloc old depth r new →
      Gives body_of (stmt depth (input old.now)) r (input new.now)

-- an expression that may be missing before this sign, and the sign
abbrev pub maybe_up_to : Mark → Parser (Option Tree)
maybe_up_to close = do
  e ← (λ i. maybe (sees close i) i)
  expect close
  pure e

-- the test in brackets after the body of `do`, and the end of the statement
abbrev pub foot : Parser Tree
foot = do
  expect m.While
  expect m.LeftParenthesis
  e ← whole
  expect m.RightParenthesis
  end
  pure e
