-- The canonical text of statements, items and programs, and what follows it.
use Rattle.std.specs.Prelude.{List, [], ◌∷◌, Option, Some, None}
use Rattle.pawk_lex.specs.declared.token.Mark.{Mark}
use Rattle.pawk_lex.specs.declared.token.Mark.TheVariants as m
use Rattle.pawk_lex.specs.Bytes.{Text}
use Rattle.pawk_lex.specs.Tokens as t
use Rattle.pawk_syntax_tree.specs.Tree.{Tree}
use Rattle.pawk_syntax_tree.specs.Statement.{Stmt, eval, print, printf, when, choose, repeat, do_while, loop, walk, go_out, exit_with, return_with, delete, clear, Stmts, done, next, word_of}
use Rattle.pawk_syntax_tree.specs.Item.{Part, begin, end, always, matching, between, define}
use Rattle.pawk_syntax_show.specs.TreeText.{with_token, with_mark, with_name, with_space, between_spaces, opening_text, closing_text, comma_text, tree_text, list_text}

-- ---- parts of statements

-- a word and a space
abbrev pub with_word : Mark → Text → Text
with_word s rest = with_mark s (with_space rest)

-- a body, where inside has its lines: a brace and a newline, the lines, a brace
abbrev pub body_text : (Text → Text) → Text → Text
body_text inside rest = with_mark m.LeftBrace (with_mark m.Newline (inside (with_mark m.RightBrace rest)))

-- an expression in round brackets
abbrev pub head_text : Tree → Text → Text
head_text e rest = opening_text (tree_text e (closing_text rest))

-- a part of a `for` that may be missing
abbrev pub maybe_text : Option Tree → Text → Text
maybe_text None rest = rest
maybe_text (Some e) rest = tree_text e rest

-- the expression of a word that may be used alone, after a space
abbrev pub operand_text : Option Tree → Text → Text
operand_text None rest = rest
operand_text (Some e) rest = with_space (tree_text e rest)

-- ---- statements

abbrev mutual
  pub stmt_text : Stmt → Text → Text
  stmt_text (eval e) rest = tree_text e rest
  stmt_text (print es) rest = with_word m.Print (list_text es rest)
  stmt_text (printf es) rest = with_word m.Printf (list_text es rest)
  stmt_text (when e a) rest = with_word m.If (head_text e (with_space (body_text (lines_text a) rest)))
  stmt_text (choose e a b) rest =
      with_word m.If (head_text e (with_space (body_text (lines_text a) (between_spaces m.Else (body_text (lines_text b) rest)))))
  stmt_text (repeat e a) rest = with_word m.While (head_text e (with_space (body_text (lines_text a) rest)))
  stmt_text (do_while a e) rest = with_word m.Do (body_text (lines_text a) (between_spaces m.While (head_text e rest)))
  stmt_text (loop a b c body) rest =
      with_word m.For (opening_text (maybe_text a (with_word m.Semicolon (maybe_text b (with_word m.Semicolon
      (maybe_text c (closing_text (with_space (body_text (lines_text body) rest)))))))))
  stmt_text (walk k a body) rest =
      with_word m.For (opening_text (with_name k (between_spaces m.In (with_name a (closing_text
      (with_space (body_text (lines_text body) rest)))))))
  stmt_text (go_out l) rest = with_mark (word_of l) rest
  stmt_text (exit_with e) rest = with_mark m.Exit (operand_text e rest)
  stmt_text (return_with e) rest = with_mark m.Return (operand_text e rest)
  stmt_text (delete a es) rest =
      with_word m.Delete (with_name a (with_mark m.LeftBracket (list_text es (with_mark m.RightBracket rest))))
  stmt_text (clear a) rest = with_word m.Delete (with_name a rest)

  -- each statement with a newline
  pub lines_text : Stmts → Text → Text
  lines_text done rest = rest
  lines_text (next x xs) rest = stmt_text x (with_mark m.Newline (lines_text xs rest))

-- ---- items

-- names with a comma and a space before each
abbrev pub other_names_text : List Text → Text → Text
other_names_text [] rest = rest
other_names_text (x ∷ xs) rest = comma_text (with_name x (other_names_text xs rest))

-- names with a comma and a space between
abbrev pub names_text : List Text → Text → Text
names_text [] rest = rest
names_text (x ∷ xs) rest = with_name x (other_names_text xs rest)

abbrev pub part_text : Part → Text → Text
part_text (begin a) rest = with_word m.Begin (body_text (lines_text a) rest)
part_text (end a) rest = with_word m.End (body_text (lines_text a) rest)
part_text (always a) rest = body_text (lines_text a) rest
part_text (matching p a) rest = tree_text p (with_space (body_text (lines_text a) rest))
part_text (between p q a) rest = tree_text p (comma_text (tree_text q (with_space (body_text (lines_text a) rest))))
part_text (define f ps a) rest =
    with_word m.Function (with_token (t.function_name f) (opening_text (names_text ps (closing_text
    (with_space (body_text (lines_text a) rest))))))

-- each item with a newline
abbrev pub program_text : List Part → Text
program_text [] = []
program_text (x ∷ xs) = part_text x (with_mark m.Newline (program_text xs))
