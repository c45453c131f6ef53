-- The canonical tokens of statements, and the statements that have them.
use Rattle.std.specs.Prelude.{◌≡◌, List, ◌∷◌, Option, Some, None}
use Rattle.pawk_lex.specs.declared.token.Mark.TheVariants as m
use Rattle.pawk_lex.specs.Tokens.{Tok}
use Rattle.pawk_lex.specs.Tokens as t
use Rattle.pawk_syntax_tree.specs.Tree.{Tree, Trees, value}
use Rattle.pawk_syntax_tree.specs.Canonical.{opening, closing, canon, canon_first, IsSome, IsSound, AreSound}
use Rattle.pawk_syntax_tree.specs.Statement.{Stmt, eval, print, printf, when, choose, repeat, do_while, loop, walk, go_out, exit_with, return_with, delete, clear, Stmts, done, next, word_of}

-- a body, where inside has its lines: braces, a newline after the first, and the lines
abbrev pub in_braces : (List Tok → List Tok) → List Tok → List Tok
in_braces inside rest = t.mark m.LeftBrace ∷ t.mark m.Newline ∷ inside (t.mark m.RightBrace ∷ rest)

abbrev pub in_head : Tree → List Tok → List Tok
in_head e rest = opening (canon e (closing rest))

abbrev pub canon_maybe : Option Tree → List Tok → List Tok
canon_maybe None rest = rest
canon_maybe (Some e) rest = canon e rest

abbrev mutual
  pub canon_stmt : Stmt → List Tok → List Tok
  canon_stmt (eval e) rest = canon e rest
  canon_stmt (print es) rest = t.mark m.Print ∷ canon_first es rest
  canon_stmt (printf es) rest = t.mark m.Printf ∷ canon_first es rest
  canon_stmt (when e a) rest = t.mark m.If ∷ in_head e (in_braces (canon_lines a) rest)
  canon_stmt (choose e a b) rest =
      t.mark m.If ∷ in_head e (in_braces (canon_lines a) (t.mark m.Else ∷ in_braces (canon_lines b) rest))
  canon_stmt (repeat e a) rest = t.mark m.While ∷ in_head e (in_braces (canon_lines a) rest)
  canon_stmt (do_while a e) rest = t.mark m.Do ∷ in_braces (canon_lines a) (t.mark m.While ∷ in_head e rest)
  canon_stmt (loop a b c body) rest =
      t.mark m.For ∷ opening (canon_maybe a (t.mark m.Semicolon ∷ canon_maybe b (t.mark m.Semicolon ∷
      canon_maybe c (closing (in_braces (canon_lines body) rest)))))
  canon_stmt (walk k a body) rest =
      t.mark m.For ∷ opening (t.name k ∷ t.mark m.In ∷ t.name a ∷ closing (in_braces (canon_lines body) rest))
  canon_stmt (go_out l) rest = t.mark (word_of l) ∷ rest
  canon_stmt (exit_with e) rest = t.mark m.Exit ∷ canon_maybe e rest
  canon_stmt (return_with e) rest = t.mark m.Return ∷ canon_maybe e rest
  canon_stmt (delete a es) rest =
      t.mark m.Delete ∷ t.name a ∷ t.mark m.LeftBracket ∷ canon_first es (t.mark m.RightBracket ∷ rest)
  canon_stmt (clear a) rest = t.mark m.Delete ∷ t.name a ∷ rest

  -- each statement with a newline
  pub canon_lines : Stmts → List Tok → List Tok
  canon_lines done rest = rest
  canon_lines (next x xs) rest = canon_stmt x (t.mark m.Newline ∷ canon_lines xs rest)

-- an expression whose value counts
abbrev pub Counts : Tree → Type 0
Counts e = (value e ≡ e) × IsSound e

abbrev pub MayCount : Option Tree → Type 0
MayCount None = Unit {0}
MayCount (Some e) = Counts e

abbrev pub AreListed : Trees → Type 0
AreListed es = IsSome es × AreSound None 0 es

abbrev mutual
  pub IsSoundStmt : Stmt → Type 0
  IsSoundStmt (eval e) = Counts e
  IsSoundStmt (print es) = AreListed es
  IsSoundStmt (printf es) = AreListed es
  IsSoundStmt (when e a) = Counts e × AreSoundStmts a
  IsSoundStmt (choose e a b) = Counts e × AreSoundStmts a × AreSoundStmts b
  IsSoundStmt (repeat e a) = Counts e × AreSoundStmts a
  IsSoundStmt (do_while a e) = Counts e × AreSoundStmts a
  IsSoundStmt (loop a b c body) = MayCount a × MayCount b × MayCount c × AreSoundStmts body
  IsSoundStmt (walk k a body) = AreSoundStmts body
  IsSoundStmt (go_out l) = Unit {0}
  IsSoundStmt (exit_with e) = MayCount e
  IsSoundStmt (return_with e) = MayCount e
  IsSoundStmt (delete a es) = AreListed es
  IsSoundStmt (clear a) = Unit {0}

  pub AreSoundStmts : Stmts → Type 0
  AreSoundStmts done = Unit {0}
  AreSoundStmts (next x xs) = IsSoundStmt x × AreSoundStmts xs
