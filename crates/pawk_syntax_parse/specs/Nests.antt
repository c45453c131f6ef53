-- A function value that reads phrases to a depth.
use Rattle.std.specs.Prelude.{ℕ, Bool, Result}
use Rattle.std.specs.declared.alloc.Global.{Global}
use denote.Ref.{MutBor}
use Rattle.pawk_lex.specs.declared.refusal.SyntaxRefusal.{SyntaxRefusal}
use Rattle.pawk_syntax_tree.specs.Parse.{expr}
use Rattle.pawk_syntax_parse.specs.declared.cursor.Cursor.{Cursor}
use Rattle.pawk_syntax_parse.specs.declared.phrase.Phrase.{Phrase}
use Rattle.pawk_syntax_parse.specs.Reads.{input, Gives, tree_of}

pub record Nests (depth : ℕ) (pre : Global → MutBor Cursor → ℕ → Bool → ℕ → Type 0)
    (post : Global → MutBor Cursor → ℕ → Bool → ℕ → Result Phrase SyntaxRefusal → MutBor Cursor → Type 0) : Type 0 where
  pub callable : (alloc : Global) (old : MutBor Cursor) (compares : Bool) (least : ℕ) → pre alloc old depth compares least
  pub reads : (alloc : Global) (old new : MutBor Cursor) (compares : Bool) (least : ℕ) (r : Result Phrase SyntaxRefusal) →
      post alloc old depth compares least r new → Gives tree_of (expr depth compares least (input old.now)) r (input new.now)
