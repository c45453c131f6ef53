-- Statements without where they lie in memory, nor where their words are in the text.
use Rattle.std.specs.Prelude.{ℕ, suc, max, List, [], ◌∷◌, Option, Some, None}
use Rattle.pawk_lex.specs.declared.token.Mark.{Mark}
use Rattle.pawk_lex.specs.declared.token.Mark.TheVariants as m
use Rattle.pawk_lex.specs.Bytes.{Text}
use Rattle.pawk_syntax_tree.specs.declared.tree.ExpressionTree.{ExpressionTree}
use Rattle.pawk_syntax_tree.specs.Tree.{Tree, Trees, trees, view, views}
use Rattle.pawk_syntax_tree.specs.Canonical.{height, highest}
use Rattle.pawk_syntax_tree.specs.declared.statement.Jump.{Jump}
use Rattle.pawk_syntax_tree.specs.declared.statement.Jump.TheVariants as leave
use Rattle.pawk_syntax_tree.specs.declared.statement.StatementTree.{StatementTree, fold-StatementTree}
use Rattle.pawk_syntax_tree.specs.declared.statement.StatementTree.TheOpen.{StatementTree-F}

mutual
  pub data Stmt : Type 0 where
    eval : Tree → Stmt
    print : Trees → Stmt
    printf : Trees → Stmt
    when : Tree → Stmts → Stmt
    choose : Tree → Stmts → Stmts → Stmt
    repeat : Tree → Stmts → Stmt
    do_while : Stmts → Tree → Stmt
    loop : Option Tree → Option Tree → Option Tree → Stmts → Stmt
    walk : Text → Text → Stmts → Stmt
    go_out : Jump → Stmt
    exit_with : Option Tree → Stmt
    return_with : Option Tree → Stmt
    delete : Text → Trees → Stmt
    clear : Text → Stmt

  pub data Stmts : Type 0 where
    done : Stmts
    next : Stmt → Stmts → Stmts

abbrev pub stmts : List Stmt → Stmts
stmts [] = done
stmts (x ∷ xs) = next x (stmts xs)

-- a then b
abbrev pub both : Stmts → Stmts → Stmts
both done b = b
both (next x xs) b = next x (both xs b)

abbrev pub option_view : Option ExpressionTree → Option Tree
option_view None = None
option_view (Some e) = Some (view e)

-- one level, with each statement inside already seen
abbrev pub stmt_step : StatementTree-F Stmt → Stmt
stmt_step (StatementTree-F.Expression e) = eval (view e)
stmt_step (StatementTree-F.Print v) = print (trees (views v.items))
stmt_step (StatementTree-F.Printf v) = printf (trees (views v.items))
stmt_step (StatementTree-F.If e v) = when (view e) (stmts v.items)
stmt_step (StatementTree-F.IfElse e v w) = choose (view e) (stmts v.items) (stmts w.items)
stmt_step (StatementTree-F.While e v) = repeat (view e) (stmts v.items)
stmt_step (StatementTree-F.DoWhile v e) = do_while (stmts v.items) (view e)
stmt_step (StatementTree-F.For a b c v) = loop (option_view a) (option_view b) (option_view c) (stmts v.items)
stmt_step (StatementTree-F.ForIn k a v) = walk k.text.items a.text.items (stmts v.items)
stmt_step (StatementTree-F.Leave l place) = go_out l
stmt_step (StatementTree-F.Exit e) = exit_with (option_view e)
stmt_step (StatementTree-F.Return e place) = return_with (option_view e)
stmt_step (StatementTree-F.Delete a v) = delete a.text.items (trees (views v.items))
stmt_step (StatementTree-F.DeleteArray a) = clear a.text.items

abbrev pub stmt_view : StatementTree → Stmt
stmt_view = fold-StatementTree Stmt stmt_step

-- the word of a statement that leaves
abbrev pub word_of : Jump → Mark
word_of leave.Next = m.Next
word_of leave.NextFile = m.NextFile
word_of leave.Break = m.Break
word_of leave.Continue = m.Continue

-- ---- heights

abbrev pub option_height : Option Tree → ℕ
option_height None = 0
option_height (Some e) = height e

abbrev mutual
  pub height_of : Stmt → ℕ
  height_of (eval e) = height e
  height_of (print es) = suc (highest es)
  height_of (printf es) = suc (highest es)
  height_of (when e a) = suc (max (height e) (highest_of a))
  height_of (choose e a b) = suc (max (height e) (max (highest_of a) (highest_of b)))
  height_of (repeat e a) = suc (max (height e) (highest_of a))
  height_of (do_while a e) = suc (max (highest_of a) (height e))
  height_of (loop a b c body) =
      suc (max (max (option_height a) (max (option_height b) (option_height c))) (highest_of body))
  height_of (walk k a body) = suc (highest_of body)
  height_of (go_out l) = 1
  height_of (exit_with e) = suc (option_height e)
  height_of (return_with e) = suc (option_height e)
  height_of (delete a es) = suc (highest es)
  height_of (clear a) = 1

  pub highest_of : Stmts → ℕ
  highest_of done = 0
  highest_of (next x xs) = max (height_of x) (highest_of xs)
