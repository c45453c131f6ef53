-- The grammar of statements (POSIX.1-2017, awk, "Grammar"), read as that of expressions: `ts` begins with such a phrase, and
-- `rest` is what follows it.
use Rattle.std.specs.Prelude.{true, false, List, ◌∷◌, Option, Some, None}
use Rattle.pawk_lex.specs.declared.token.Mark.TheVariants as m
use Rattle.pawk_lex.specs.Bytes.{Text}
use Rattle.pawk_lex.specs.Tokens.{Tok}
use Rattle.pawk_lex.specs.Tokens as t
use Rattle.pawk_syntax_tree.specs.Tree.{Tree, Trees, none, more, record_tree, value}
use Rattle.pawk_syntax_tree.specs.Grammar.{Newlines, NotNext, Derives, DerivesEach}
use Rattle.pawk_syntax_tree.specs.declared.statement.Jump.{Jump}
use Rattle.pawk_syntax_tree.specs.Statement.{Stmt, eval, print, printf, when, choose, repeat, do_while, loop, walk, go_out, exit_with, return_with, delete, clear, Stmts, done, next, both, word_of}

-- `;` or a newline, and further newlines; or nothing before `}`
pub data End : List Tok → List Tok → Type 0 where
  by_semicolon : {ts rest : List Tok} → Newlines ts rest → End (t.mark m.Semicolon ∷ ts) rest
  by_line : {ts rest : List Tok} → Newlines ts rest → End (t.mark m.Newline ∷ ts) rest
  by_brace : {ts : List Tok} → End (t.mark m.RightBrace ∷ ts) (t.mark m.RightBrace ∷ ts)

-- an expression that may be missing
pub data Maybe : List Tok → List Tok → Option Tree → Type 0 where
  missing : {ts : List Tok} → Maybe ts ts None
  given : {ts rest : List Tok} {a : Tree} → Derives true 0 ts rest a → Maybe ts rest (Some (value a))

-- print_expr_list; two or more may be written in brackets
pub data Printed : List Tok → List Tok → Trees → Type 0 where
  a_list : {ts rest : List Tok} {bs : Trees} → DerivesEach false None 0 ts rest bs → Printed ts rest bs
  in_brackets : {ts rest : List Tok} {a d : Tree} {bs : Trees} →
      DerivesEach true None 0 ts (t.mark m.RightParenthesis ∷ rest) (more a (more d bs)) →
      Printed (t.mark m.LeftParenthesis ∷ ts) rest (more a (more d bs))

pub data Simple : List Tok → List Tok → Stmt → Type 0 where
  an_expression : {ts rest : List Tok} {a : Tree} → Derives true 0 ts rest a → Simple ts rest (eval (value a))
  -- Print alone prints `$0`
  a_bare_print : {ts : List Tok} → Simple (t.mark m.Print ∷ ts) ts (print (more record_tree none))
  a_print : {ts rest : List Tok} {bs : Trees} → Printed ts rest bs → Simple (t.mark m.Print ∷ ts) rest (print bs)
  a_printf : {ts rest : List Tok} {bs : Trees} → Printed ts rest bs → Simple (t.mark m.Printf ∷ ts) rest (printf bs)
  a_leave : {l : Jump} {ts : List Tok} → Simple (t.mark (word_of l) ∷ ts) ts (go_out l)
  an_exit : {ts rest : List Tok} {e : Option Tree} → Maybe ts rest e → Simple (t.mark m.Exit ∷ ts) rest (exit_with e)
  a_return : {ts rest : List Tok} {e : Option Tree} → Maybe ts rest e →
      Simple (t.mark m.Return ∷ ts) rest (return_with e)
  -- Delete NAME '[' expr_list ']'
  a_delete : {a : Text} {ts rest : List Tok} {bs : Trees} →
      DerivesEach true None 0 ts (t.mark m.RightBracket ∷ rest) bs →
      Simple (t.mark m.Delete ∷ t.name a ∷ t.mark m.LeftBracket ∷ ts) rest (delete a bs)
  -- Delete NAME, of the whole array
  a_clear : {a : Text} {ts : List Tok} → Simple (t.mark m.Delete ∷ t.name a ∷ ts) ts (clear a)

-- an expression in round brackets, and newlines
pub data Head : List Tok → List Tok → Tree → Type 0 where
  a_head : {ts mid rest : List Tok} {a : Tree} → Derives true 0 ts (t.mark m.RightParenthesis ∷ mid) a →
      Newlines mid rest → Head (t.mark m.LeftParenthesis ∷ ts) rest (value a)

mutual
  -- A statement is a list of statements: a block stands for its own, and `;` alone for none.
  pub data Means : List Tok → List Tok → Stmts → Type 0 where
    a_simple : {ts mid rest : List Tok} {x : Stmt} → Simple ts mid x → End mid rest → Means ts rest (next x done)
    an_empty : {ts rest : List Tok} → Newlines ts rest → Means (t.mark m.Semicolon ∷ ts) rest done
    a_block : {ts mid first rest : List Tok} {xs : Stmts} → Newlines ts first → Lists first mid xs →
        Newlines mid rest → Means (t.mark m.LeftBrace ∷ ts) rest xs
    -- an `else` belongs to the nearest `if`
    an_if : {ts mid rest : List Tok} {e : Tree} {a : Stmts} → Head ts mid e → Means mid rest a →
        NotNext m.Else rest → Means (t.mark m.If ∷ ts) rest (next (when e a) done)
    an_else : {ts mid after other rest : List Tok} {e : Tree} {a b : Stmts} → Head ts mid e →
        Means mid (t.mark m.Else ∷ after) a → Newlines after other → Means other rest b →
        Means (t.mark m.If ∷ ts) rest (next (choose e a b) done)
    a_while : {ts mid rest : List Tok} {e : Tree} {a : Stmts} → Head ts mid e → Means mid rest a →
        Means (t.mark m.While ∷ ts) rest (next (repeat e a) done)
    a_do : {ts first mid end rest : List Tok} {e : Tree} {a : Stmts} → Newlines ts first →
        Means first (t.mark m.While ∷ t.mark m.LeftParenthesis ∷ mid) a →
        Derives true 0 mid (t.mark m.RightParenthesis ∷ end) e → End end rest →
        Means (t.mark m.Do ∷ ts) rest (next (do_while a (value e)) done)
    a_for : {ts one two end first rest : List Tok} {a b c : Option Tree} {body : Stmts} →
        Maybe ts (t.mark m.Semicolon ∷ one) a → Maybe one (t.mark m.Semicolon ∷ two) b →
        Maybe two (t.mark m.RightParenthesis ∷ end) c → Newlines end first → Means first rest body →
        Means (t.mark m.For ∷ t.mark m.LeftParenthesis ∷ ts) rest (next (loop a b c body) done)
    a_walk : {k a : Text} {ts first rest : List Tok} {body : Stmts} → Newlines ts first → Means first rest body →
        Means (t.mark m.For ∷ t.mark m.LeftParenthesis ∷ t.name k ∷ t.mark m.In ∷ t.name a ∷ t.mark m.RightParenthesis ∷ ts)
        rest (next (walk k a body) done)

  -- statements up to and with `}`
  pub data Lists : List Tok → List Tok → Stmts → Type 0 where
    at_brace : {ts : List Tok} → Lists (t.mark m.RightBrace ∷ ts) ts done
    further : {ts mid rest : List Tok} {a b : Stmts} → Means ts mid a → Lists mid rest b → Lists ts rest (both a b)
