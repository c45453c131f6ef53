-- The expressions between slashes of trees, by their parts, and that together they are those of the program.
use Rattle.std.proofs.Common.{◌≡◌, List, [], ◌∷◌, ◌++◌, refl, ap, ◌∙◌, sym, append_assoc, Option, Some, None}
use Rattle.std.specs.List.{flat_map}
use Rattle.pawk_lex.specs.Bytes.{Text}
use Rattle.pawk_syntax_tree.specs.Tree.{Tree, number, string, ere, variable, element, unary, binary, choice, member, call, builtin, Trees, none, more}
use Rattle.pawk_syntax_tree.specs.Statement.{Stmt, eval, print, printf, when, choose, repeat, do_while, loop, walk, go_out, exit_with, return_with, delete, clear, Stmts, done, next}
use Rattle.pawk_syntax_tree.specs.Item.{Part, begin, end, always, matching, between, define}
use Rattle.pawk_syntax_grammar.specs.Expressions.{in_tree, in_trees, in_option, in_stmt, in_stmts, in_part, eres_of_program}

abbrev mutual
  pub of_tree : Tree → List Text
  of_tree (number n) = []
  of_tree (string x) = []
  of_tree (ere x) = x ∷ []
  of_tree (variable x) = []
  of_tree (element x ts) = of_trees ts
  of_tree (unary op a) = of_tree a
  of_tree (binary op a d) = of_tree a ++ of_tree d
  of_tree (choice a d e) = of_tree a ++ of_tree d ++ of_tree e
  of_tree (member ts x) = of_trees ts
  of_tree (call f ts) = of_trees ts
  of_tree (builtin f ts) = of_trees ts

  pub of_trees : Trees → List Text
  of_trees none = []
  of_trees (more t ts) = of_tree t ++ of_trees ts

abbrev pub of_option : Option Tree → List Text
of_option None = []
of_option (Some e) = of_tree e

abbrev mutual
  pub of_statement : Stmt → List Text
  of_statement (eval e) = of_tree e
  of_statement (print es) = of_trees es
  of_statement (printf es) = of_trees es
  of_statement (when e a) = of_tree e ++ of_body a
  of_statement (choose e a d) = of_tree e ++ of_body a ++ of_body d
  of_statement (repeat e a) = of_tree e ++ of_body a
  of_statement (do_while a e) = of_body a ++ of_tree e
  of_statement (loop a d e body) = of_option a ++ of_option d ++ of_option e ++ of_body body
  of_statement (walk k x body) = of_body body
  of_statement (go_out l) = []
  of_statement (exit_with e) = of_option e
  of_statement (return_with e) = of_option e
  of_statement (delete x es) = of_trees es
  of_statement (clear x) = []

  pub of_body : Stmts → List Text
  of_body done = []
  of_body (next x xs) = of_statement x ++ of_body xs

abbrev pub of_part : Part → List Text
of_part (begin a) = of_body a
of_part (end a) = of_body a
of_part (always a) = of_body a
of_part (matching e a) = of_tree e ++ of_body a
of_part (between e f a) = of_tree e ++ of_tree f ++ of_body a
of_part (define f ps a) = of_body a

abbrev pub of_parts : List Part → List Text
of_parts = flat_map of_part

-- what the definition of the grammar puts before the others
mutual
  in_tree_is : (t : Tree) (rest : List Text) → in_tree t rest ≡ of_tree t ++ rest
  in_tree_is (number n) rest = refl
  in_tree_is (string x) rest = refl
  in_tree_is (ere x) rest = refl
  in_tree_is (variable x) rest = refl
  in_tree_is (element x ts) rest = in_trees_is ts rest
  in_tree_is (unary op a) rest = in_tree_is a rest
  in_tree_is (binary op a d) rest = rw (in_tree_is d rest, in_tree_is a (of_tree d ++ rest)) (simp append_assoc)
  in_tree_is (choice a d e) rest = rw (in_tree_is e rest, in_tree_is d (of_tree e ++ rest), in_tree_is a (of_tree d ++ (of_tree e ++ rest))) (simp append_assoc)
  in_tree_is (member ts x) rest = in_trees_is ts rest
  in_tree_is (call f ts) rest = in_trees_is ts rest
  in_tree_is (builtin f ts) rest = in_trees_is ts rest

  in_trees_is : (ts : Trees) (rest : List Text) → in_trees ts rest ≡ of_trees ts ++ rest
  in_trees_is none rest = refl
  in_trees_is (more t ts) rest = rw (in_trees_is ts rest, in_tree_is t (of_trees ts ++ rest)) (simp append_assoc)

in_option_is : (o : Option Tree) (rest : List Text) → in_option o rest ≡ of_option o ++ rest
in_option_is None rest = refl
in_option_is (Some e) rest = in_tree_is e rest

mutual
  in_stmt_is : (x : Stmt) (rest : List Text) → in_stmt x rest ≡ of_statement x ++ rest
  in_stmt_is (eval e) rest = in_tree_is e rest
  in_stmt_is (print es) rest = in_trees_is es rest
  in_stmt_is (printf es) rest = in_trees_is es rest
  in_stmt_is (when e a) rest = rw (in_stmts_is a rest, in_tree_is e (of_body a ++ rest)) (simp append_assoc)
  in_stmt_is (choose e a d) rest = rw (in_stmts_is d rest, in_stmts_is a (of_body d ++ rest), in_tree_is e (of_body a ++ (of_body d ++ rest))) (simp append_assoc)
  in_stmt_is (repeat e a) rest = rw (in_stmts_is a rest, in_tree_is e (of_body a ++ rest)) (simp append_assoc)
  in_stmt_is (do_while a e) rest = rw (in_tree_is e rest, in_stmts_is a (of_tree e ++ rest)) (simp append_assoc)
  in_stmt_is (loop a d e body) rest =
      rw (in_stmts_is body rest, in_option_is e (of_body body ++ rest), in_option_is d (of_option e ++ (of_body body ++ rest)), in_option_is a (of_option d ++ (of_option e ++ (of_body body ++ rest)))) (simp append_assoc)
  in_stmt_is (walk k x body) rest = in_stmts_is body rest
  in_stmt_is (go_out l) rest = refl
  in_stmt_is (exit_with e) rest = in_option_is e rest
  in_stmt_is (return_with e) rest = in_option_is e rest
  in_stmt_is (delete x es) rest = in_trees_is es rest
  in_stmt_is (clear x) rest = refl

  in_stmts_is : (xs : Stmts) (rest : List Text) → in_stmts xs rest ≡ of_body xs ++ rest
  in_stmts_is done rest = refl
  in_stmts_is (next x xs) rest = rw (in_stmts_is xs rest, in_stmt_is x (of_body xs ++ rest)) (simp append_assoc)

in_part_is : (p : Part) (rest : List Text) → in_part p rest ≡ of_part p ++ rest
in_part_is (begin a) rest = in_stmts_is a rest
in_part_is (end a) rest = in_stmts_is a rest
in_part_is (always a) rest = in_stmts_is a rest
in_part_is (matching e a) rest = rw (in_stmts_is a rest, in_tree_is e (of_body a ++ rest)) (simp append_assoc)
in_part_is (between e f a) rest = rw (in_stmts_is a rest, in_tree_is f (of_body a ++ rest), in_tree_is e (of_tree f ++ (of_body a ++ rest))) (simp append_assoc)
in_part_is (define f ps a) rest = in_stmts_is a rest

-- they are those of the program
pub of_parts_are : (ps : List Part) → of_parts ps ≡ eres_of_program ps
of_parts_are [] = refl
of_parts_are (p ∷ ps) = sym (in_part_is p (eres_of_program ps) ∙ ap (λ xs. of_part p ++ xs) (sym (of_parts_are ps)))
