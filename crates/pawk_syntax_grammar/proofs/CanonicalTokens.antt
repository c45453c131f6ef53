-- The expressions of a program are those of its canonical tokens.
use Rattle.std.proofs.Common.{◌≡◌, List, [], ◌∷◌, Option, Some, None, refl, ap, ◌∙◌}
use Rattle.pawk_lex.specs.declared.token.Mark.{Mark}
use Rattle.pawk_lex.specs.declared.token.Mark.TheVariants as m
use Rattle.pawk_lex.specs.Bytes.{Text}
use Rattle.pawk_lex.specs.Tokens.{Tok}
use Rattle.pawk_lex.specs.Tokens as t
use Rattle.pawk_syntax_tree.specs.declared.tree.Single.{Single}
use Rattle.pawk_syntax_tree.specs.declared.tree.Single.TheVariants as single
use Rattle.pawk_syntax_tree.specs.Tree.{Tree, number, string, ere, variable, element, unary, binary, choice, member, call, builtin, Trees, none, more}
use Rattle.pawk_syntax_tree.specs.Levels.{sign_of}
use Rattle.pawk_syntax_tree.specs.Canonical.{canon, canon_keys, canon_first, canon_others, closing, around, between, between_by}
use Rattle.pawk_syntax_tree.specs.Statement.{Stmt, eval, print, printf, when, choose, repeat, do_while, loop, walk, go_out, exit_with, return_with, delete, clear, Stmts, done, next}
use Rattle.pawk_syntax_tree.specs.StatementCanonical.{in_braces, in_head, canon_maybe, canon_stmt, canon_lines}
use Rattle.pawk_syntax_tree.specs.Item.{Part, begin, end, always, matching, between as ranging, define}
use Rattle.pawk_syntax_tree.specs.ItemCanonical.{canon_names, canon_parameters, canon_part, canon_program}
use Rattle.pawk_syntax_grammar.specs.Expressions.{eres, in_tree, in_trees, in_option, in_stmt, in_stmts, in_part, eres_of_program}

over_sign : (s : Option Mark) (ts : List Tok) → eres (between_by s ts) ≡ eres ts
over_sign None ts = refl
over_sign (Some s) ts = refl

-- those of an operand, with the operator around it
around_same : (op : Single) (a : List Tok → List Tok) (f : List Text → List Text) (rest : List Tok) →
    ((ts : List Tok) → eres (a ts) ≡ f (eres ts)) → eres (around op a rest) ≡ f (eres rest)
around_same single.Field a f rest h = h (closing rest)
around_same single.Not a f rest h = h (closing rest)
around_same single.Plus a f rest h = h (closing rest)
around_same single.Minus a f rest h = h (closing rest)
around_same single.IncrementBefore a f rest h = h (closing rest)
around_same single.DecrementBefore a f rest h = h (closing rest)
around_same single.IncrementAfter a f rest h = h (t.mark m.PlusPlus ∷ closing rest)
around_same single.DecrementAfter a f rest h = h (t.mark m.MinusMinus ∷ closing rest)

mutual
  of_canon : (a : Tree) (rest : List Tok) → eres (canon a rest) ≡ in_tree a (eres rest)
  of_canon (number n) rest = refl
  of_canon (string x) rest = refl
  of_canon (ere x) rest = refl
  of_canon (variable x) rest = refl
  of_canon (element x as') rest = of_first as' (t.mark m.RightBracket ∷ rest)
  of_canon (unary op a) rest = around_same op (canon a) (in_tree a) rest (of_canon a)
  of_canon (binary op a d) rest =
      of_canon a (between op (canon d (closing rest))) ∙
      ap (in_tree a) (over_sign (sign_of op) (canon d (closing rest)) ∙ of_canon d (closing rest))
  of_canon (choice a d e) rest =
      of_canon a (t.mark m.Question ∷ canon d (t.mark m.Colon ∷ canon e (closing rest))) ∙
      ap (in_tree a) (of_canon d (t.mark m.Colon ∷ canon e (closing rest)) ∙ ap (in_tree d) (of_canon e (closing rest)))
  of_canon (member as' x) rest = of_keys as' (t.mark m.In ∷ t.name x ∷ closing rest)
  of_canon (call f as') rest = of_first as' (closing rest)
  of_canon (builtin f as') rest = of_first as' (closing rest)

  of_keys : (as' : Trees) (rest : List Tok) → eres (canon_keys as' rest) ≡ in_trees as' (eres rest)
  of_keys none rest = refl
  of_keys (more a none) rest = of_canon a rest
  of_keys (more a (more d bs)) rest =
      of_canon a (t.mark m.Comma ∷ canon d (canon_others bs (closing rest))) ∙
      ap (in_tree a) (of_canon d (canon_others bs (closing rest)) ∙ ap (in_tree d) (of_others bs (closing rest)))

  of_first : (as' : Trees) (rest : List Tok) → eres (canon_first as' rest) ≡ in_trees as' (eres rest)
  of_first none rest = refl
  of_first (more a bs) rest = of_canon a (canon_others bs rest) ∙ ap (in_tree a) (of_others bs rest)

  of_others : (as' : Trees) (rest : List Tok) → eres (canon_others as' rest) ≡ in_trees as' (eres rest)
  of_others none rest = refl
  of_others (more a bs) rest = of_canon a (canon_others bs rest) ∙ ap (in_tree a) (of_others bs rest)

of_maybe : (e : Option Tree) (rest : List Tok) → eres (canon_maybe e rest) ≡ in_option e (eres rest)
of_maybe None rest = refl
of_maybe (Some e) rest = of_canon e rest

mutual
  of_stmt : (x : Stmt) (rest : List Tok) → eres (canon_stmt x rest) ≡ in_stmt x (eres rest)
  of_stmt (eval e) rest = of_canon e rest
  of_stmt (print es) rest = of_first es rest
  of_stmt (printf es) rest = of_first es rest
  of_stmt (when e a) rest = of_canon e (closing (in_braces (canon_lines a) rest)) ∙ ap (in_tree e) (of_lines a (t.mark m.RightBrace ∷ rest))
  of_stmt (choose e a b) rest =
      of_canon e (closing (in_braces (canon_lines a) (t.mark m.Else ∷ in_braces (canon_lines b) rest))) ∙
      ap (in_tree e) (of_lines a (t.mark m.RightBrace ∷ t.mark m.Else ∷ in_braces (canon_lines b) rest) ∙
      ap (in_stmts a) (of_lines b (t.mark m.RightBrace ∷ rest)))
  of_stmt (repeat e a) rest = of_canon e (closing (in_braces (canon_lines a) rest)) ∙ ap (in_tree e) (of_lines a (t.mark m.RightBrace ∷ rest))
  of_stmt (do_while a e) rest =
      of_lines a (t.mark m.RightBrace ∷ t.mark m.While ∷ in_head e rest) ∙ ap (in_stmts a) (of_canon e (closing rest))
  of_stmt (loop a b c body) rest =
      let inner = in_braces (canon_lines body) rest in
      of_maybe a (t.mark m.Semicolon ∷ canon_maybe b (t.mark m.Semicolon ∷ canon_maybe c (closing inner))) ∙
      ap (in_option a) (of_maybe b (t.mark m.Semicolon ∷ canon_maybe c (closing inner)) ∙
      ap (in_option b) (of_maybe c (closing inner) ∙ ap (in_option c) (of_lines body (t.mark m.RightBrace ∷ rest))))
  of_stmt (walk k a body) rest = of_lines body (t.mark m.RightBrace ∷ rest)
  of_stmt (go_out l) rest = refl
  of_stmt (exit_with e) rest = of_maybe e rest
  of_stmt (return_with e) rest = of_maybe e rest
  of_stmt (delete a es) rest = of_first es (t.mark m.RightBracket ∷ rest)
  of_stmt (clear a) rest = refl

  of_lines : (xs : Stmts) (rest : List Tok) → eres (canon_lines xs rest) ≡ in_stmts xs (eres rest)
  of_lines done rest = refl
  of_lines (next x xs) rest = of_stmt x (t.mark m.Newline ∷ canon_lines xs rest) ∙ ap (in_stmt x) (of_lines xs rest)

of_names : (xs : List Text) (rest : List Tok) → eres (canon_names xs rest) ≡ eres rest
of_names [] rest = refl
of_names (x ∷ xs) rest = of_names xs rest

of_parameters : (xs : List Text) (rest : List Tok) → eres (canon_parameters xs rest) ≡ eres rest
of_parameters [] rest = refl
of_parameters (x ∷ xs) rest = of_names xs rest

of_action : (a : Stmts) (rest : List Tok) → eres (in_braces (canon_lines a) rest) ≡ in_stmts a (eres rest)
of_action a rest = of_lines a (t.mark m.RightBrace ∷ rest)

of_part : (x : Part) (rest : List Tok) → eres (canon_part x rest) ≡ in_part x (eres rest)
of_part (begin a) rest = of_action a rest
of_part (end a) rest = of_action a rest
of_part (always a) rest = of_action a rest
of_part (matching p a) rest = of_canon p (in_braces (canon_lines a) rest) ∙ ap (in_tree p) (of_action a rest)
of_part (ranging p q a) rest =
    of_canon p (t.mark m.Comma ∷ canon q (in_braces (canon_lines a) rest)) ∙
    ap (in_tree p) (of_canon q (in_braces (canon_lines a) rest) ∙ ap (in_tree q) (of_action a rest))
of_part (define f ps a) rest = of_parameters ps (closing (in_braces (canon_lines a) rest)) ∙ of_action a rest

pub of_program : (xs : List Part) → eres (canon_program xs) ≡ eres_of_program xs
of_program [] = refl
of_program (x ∷ xs) = of_part x (t.mark m.Newline ∷ canon_program xs) ∙ ap (in_part x) (of_program xs)
