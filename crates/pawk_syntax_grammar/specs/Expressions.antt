-- The expressions between slashes of tokens and of trees, each as its bytes, in the order of the text
-- (POSIX.1-2017, awk, "Grammar": ERE).
use Rattle.std.specs.Prelude.{List, [], ◌∷◌, Option, Some, None}
use Rattle.pawk_lex.specs.Bytes.{Text}
use Rattle.pawk_lex.specs.Tokens.{Tok}
use Rattle.pawk_lex.specs.Tokens as t
use Rattle.pawk_syntax_tree.specs.Tree.{Tree, number, string, ere, variable, element, unary, binary, choice, member, call, builtin, Trees, none, more}
use Rattle.pawk_syntax_tree.specs.Statement.{Stmt, eval, print, printf, when, choose, repeat, do_while, loop, walk, go_out, exit_with, return_with, delete, clear, Stmts, done, next}
use Rattle.pawk_syntax_tree.specs.Item.{Part, begin, end, always, matching, between, define}

-- those of tokens
abbrev pub eres : List Tok → List Text
eres [] = []
eres (t.ere x ∷ ts) = x ∷ eres ts
eres (t.number n ∷ ts) = eres ts
eres (t.string x ∷ ts) = eres ts
eres (t.name x ∷ ts) = eres ts
eres (t.function_name x ∷ ts) = eres ts
eres (t.builtin f ∷ ts) = eres ts
eres (t.mark s ∷ ts) = eres ts

-- those of a tree, and then these
abbrev mutual
  pub in_tree : Tree → List Text → List Text
  in_tree (number n) rest = rest
  in_tree (string x) rest = rest
  in_tree (ere x) rest = x ∷ rest
  in_tree (variable x) rest = rest
  in_tree (element x as') rest = in_trees as' rest
  in_tree (unary op a) rest = in_tree a rest
  in_tree (binary op a d) rest = in_tree a (in_tree d rest)
  in_tree (choice a d e) rest = in_tree a (in_tree d (in_tree e rest))
  in_tree (member as' x) rest = in_trees as' rest
  in_tree (call f as') rest = in_trees as' rest
  in_tree (builtin f as') rest = in_trees as' rest

  pub in_trees : Trees → List Text → List Text
  in_trees none rest = rest
  in_trees (more a bs) rest = in_tree a (in_trees bs rest)

abbrev pub in_option : Option Tree → List Text → List Text
in_option None rest = rest
in_option (Some e) rest = in_tree e rest

abbrev mutual
  pub in_stmt : Stmt → List Text → List Text
  in_stmt (eval e) rest = in_tree e rest
  in_stmt (print es) rest = in_trees es rest
  in_stmt (printf es) rest = in_trees es rest
  in_stmt (when e a) rest = in_tree e (in_stmts a rest)
  in_stmt (choose e a b) rest = in_tree e (in_stmts a (in_stmts b rest))
  in_stmt (repeat e a) rest = in_tree e (in_stmts a rest)
  in_stmt (do_while a e) rest = in_stmts a (in_tree e rest)
  in_stmt (loop a b c body) rest = in_option a (in_option b (in_option c (in_stmts body rest)))
  in_stmt (walk k a body) rest = in_stmts body rest
  in_stmt (go_out l) rest = rest
  in_stmt (exit_with e) rest = in_option e rest
  in_stmt (return_with e) rest = in_option e rest
  in_stmt (delete a es) rest = in_trees es rest
  in_stmt (clear a) rest = rest

  pub in_stmts : Stmts → List Text → List Text
  in_stmts done rest = rest
  in_stmts (next x xs) rest = in_stmt x (in_stmts xs rest)

abbrev pub in_part : Part → List Text → List Text
in_part (begin a) rest = in_stmts a rest
in_part (end a) rest = in_stmts a rest
in_part (always a) rest = in_stmts a rest
in_part (matching p a) rest = in_tree p (in_stmts a rest)
in_part (between p q a) rest = in_tree p (in_tree q (in_stmts a rest))
in_part (define f ps a) rest = in_stmts a rest

-- those of a program
abbrev pub eres_of_program : List Part → List Text
eres_of_program [] = []
eres_of_program (x ∷ xs) = in_part x (eres_of_program xs)
