-- The canonical text of a program is cut into its canonical tokens.
use Rattle.std.proofs.Common.{◌++◌, true, false, List, [], ◌∷◌, Option, Some, None, refl}
use Rattle.std.specs.Prelude.{slice_index}
use Rattle.pawk_lex.specs.declared.token.Mark.TheVariants as m
use Rattle.pawk_lex.specs.Bytes.{Text}
use Rattle.pawk_lex.specs.Vocabulary.{double}
use Rattle.pawk_lex.specs.Tokens.{Tok}
use Rattle.pawk_lex.specs.Tokens as t
use Rattle.pawk_lex.specs.Next.{is_redirection}
use Rattle.pawk_lex.specs.Cut.{no_gap, CutFrom, at_end}
use Rattle.pawk_syntax_tree.specs.Tree.{Tree}
use Rattle.pawk_syntax_tree.specs.Canonical.{closing, canon}
use Rattle.pawk_syntax_tree.specs.declared.statement.Jump.{Jump}
use Rattle.pawk_syntax_tree.specs.declared.statement.Jump.TheVariants as leave
use Rattle.pawk_syntax_tree.specs.Statement.{Stmt, eval, print, printf, when, choose, repeat, do_while, loop, walk, go_out, exit_with, return_with, delete, clear, Stmts, done, next}
use Rattle.pawk_syntax_tree.specs.StatementCanonical.{in_braces, in_head, canon_maybe, canon_stmt, canon_lines, Counts, MayCount, IsSoundStmt, AreSoundStmts}
use Rattle.pawk_syntax_tree.specs.Item.{Part, begin, end, always, matching, between, define}
use Rattle.pawk_syntax_tree.specs.ItemCanonical.{canon_names, canon_parameters, canon_part, canon_program, IsSoundPart, AreSoundParts}
use Rattle.pawk_syntax_show.specs.TreeText.{closing_text, tree_text, list_text}
use Rattle.pawk_syntax_show.specs.ProgramText.{body_text, head_text, maybe_text, operand_text, stmt_text, lines_text, other_names_text, names_text, part_text, program_text}
use Rattle.pawk_syntax_show.proofs.WritableTree.{IsWritableTree}
use Rattle.pawk_syntax_show.proofs.WritableProgram.{MayWrite, IsWritableStmt, AreWritableStmts, AreWritableNames, IsWritablePart, AreWritableParts}
use Rattle.pawk_syntax_show.proofs.TreeCut.{CutAnyhow, space_cut, token_cut, mark_cut, word_cut, spaced_cut, opening_cut, closing_cut, left_bracket_cut, right_bracket_cut, comma_cut, Breaks, space_breaks, closing_breaks, comma_breaks, bracket_breaks, name_cut, tree_may_occur, tree_cut, list_cut}

-- ---- braces and newlines

line_cut : {rest : Text} {ts : List Tok} → CutFrom false rest ts → CutAnyhow (10 ∷ rest) (t.mark m.Newline ∷ ts)
unfolding double is_redirection
line_cut {rest = rest} c d = mark_cut m.Newline rest (refl, refl) tt c

left_brace_cut : {rest : Text} {ts : List Tok} → CutFrom false rest ts → CutAnyhow (123 ∷ rest) (t.mark m.LeftBrace ∷ ts)
unfolding double is_redirection
left_brace_cut {rest = rest} c d = mark_cut m.LeftBrace rest (refl, refl) tt c

right_brace_cut : {rest : Text} {ts : List Tok} → CutFrom false rest ts → CutAnyhow (125 ∷ rest) (t.mark m.RightBrace ∷ ts)
unfolding double is_redirection
right_brace_cut {rest = rest} c d = mark_cut m.RightBrace rest (refl, refl) tt c

line_breaks : Breaks 10
line_breaks = record { no_name = refl; no_point = refl; no_call = refl }

semicolon_breaks : Breaks 59
semicolon_breaks = record { no_name = refl; no_point = refl; no_call = refl }

-- ---- parts of statements

-- the body's lines up to the closing brace are cut
braces_cut : {z : Text} {ts : List Tok} → CutFrom false z ts → CutAnyhow (123 ∷ 10 ∷ z) (t.mark m.LeftBrace ∷ t.mark m.Newline ∷ ts)
braces_cut c = left_brace_cut (line_cut c false)

head_cut : (e : Tree) → Counts e → IsWritableTree e → (rest : Text) (ts : List Tok) → CutFrom true rest ts → CutAnyhow (head_text e rest) (in_head e ts)
head_cut e h w rest ts c d =
    opening_cut (tree_cut e h.1 w false (tree_may_occur e) (closing_text rest) (closing ts) closing_breaks (closing_cut c true))

maybe_cut : (e : Option Tree) → MayCount e → MayWrite e → (rest : Text) (ts : List Tok) → Breaks (slice_index rest 0) → CutAnyhow rest ts → CutFrom false (maybe_text e rest) (canon_maybe e ts)
maybe_cut None h w rest ts k c = c false
maybe_cut (Some e) h w rest ts k c = tree_cut e h.1 w false (tree_may_occur e) rest ts k (c true)

operand_cut : (e : Option Tree) → MayCount e → MayWrite e → (rest : Text) (ts : List Tok) → Breaks (slice_index rest 0) → CutAnyhow rest ts → CutFrom false (operand_text e rest) (canon_maybe e ts)
operand_cut None h w rest ts k c = c false
operand_cut (Some e) h w rest ts k c = space_cut (tree_cut e h.1 w false (tree_may_occur e) rest ts k (c true))

operand_breaks : (e : Option Tree) (rest : Text) → Breaks (slice_index rest 0) → Breaks (slice_index (operand_text e rest) 0)
operand_breaks None rest k = k
operand_breaks (Some e) rest k = space_breaks

semicolon_cut : {rest : Text} {ts : List Tok} → CutFrom false rest ts → CutAnyhow (59 ∷ 32 ∷ rest) (t.mark m.Semicolon ∷ ts)
semicolon_cut {rest = rest} c d = word_cut m.Semicolon rest tt c

leave_cut : (l : Jump) (rest : Text) (ts : List Tok) → Breaks (slice_index rest 0) → CutFrom false rest ts → CutFrom false (stmt_text (go_out l) rest) (canon_stmt (go_out l) ts)
leave_cut leave.Next rest ts k c = mark_cut m.Next rest k.no_name tt c
leave_cut leave.NextFile rest ts k c = mark_cut m.NextFile rest k.no_name tt c
leave_cut leave.Break rest ts k c = mark_cut m.Break rest k.no_name tt c
leave_cut leave.Continue rest ts k c = mark_cut m.Continue rest k.no_name tt c

-- ---- statements

mutual
  stmt_cut : (x : Stmt) → IsSoundStmt x → IsWritableStmt x → (rest : Text) (ts : List Tok) → Breaks (slice_index rest 0) → CutAnyhow rest ts → CutFrom false (stmt_text x rest) (canon_stmt x ts)
  stmt_cut (eval e) h w rest ts k c = tree_cut e h.1 w false (tree_may_occur e) rest ts k (c true)
  stmt_cut (print es) h w rest ts k c = word_cut m.Print (list_text es rest) tt (list_cut None 0 es h.1 w rest ts k c)
  stmt_cut (printf es) h w rest ts k c = word_cut m.Printf (list_text es rest) tt (list_cut None 0 es h.1 w rest ts k c)
  stmt_cut (when e a) h w rest ts k c =
      let body = braces_cut (lines_cut a h.1 w.1 (125 ∷ rest) (t.mark m.RightBrace ∷ ts) (right_brace_cut (c false) false)) in
      let after = 32 ∷ body_text (lines_text a) rest in
      word_cut m.If (head_text e after) tt (head_cut e h.0 w.0 after (in_braces (canon_lines a) ts) (space_cut (body true)) false)
  stmt_cut (choose e a b) h w rest ts k c =
      let other = braces_cut (lines_cut b h.2 w.2 (125 ∷ rest) (t.mark m.RightBrace ∷ ts) (right_brace_cut (c false) false)) in
      let last = body_text (lines_text b) rest in
      let second = 32 ∷ 101 ∷ 108 ∷ 115 ∷ 101 ∷ 32 ∷ last in
      let us = t.mark m.Else ∷ in_braces (canon_lines b) ts in
      let body = braces_cut (lines_cut a h.1 w.1 (125 ∷ second) (t.mark m.RightBrace ∷ us) (right_brace_cut (spaced_cut m.Else last tt (other false)) false)) in
      let after = 32 ∷ body_text (lines_text a) second in
      word_cut m.If (head_text e after) tt (head_cut e h.0 w.0 after (in_braces (canon_lines a) us) (space_cut (body true)) false)
  stmt_cut (repeat e a) h w rest ts k c =
      let body = braces_cut (lines_cut a h.1 w.1 (125 ∷ rest) (t.mark m.RightBrace ∷ ts) (right_brace_cut (c false) false)) in
      let after = 32 ∷ body_text (lines_text a) rest in
      word_cut m.While (head_text e after) tt (head_cut e h.0 w.0 after (in_braces (canon_lines a) ts) (space_cut (body true)) false)
  stmt_cut (do_while a e) h w rest ts k c =
      let head = head_cut e h.0 w.1 rest ts (c true) in
      let last = 32 ∷ 119 ∷ 104 ∷ 105 ∷ 108 ∷ 101 ∷ 32 ∷ head_text e rest in
      let us = t.mark m.While ∷ in_head e ts in
      let body = braces_cut (lines_cut a h.1 w.0 (125 ∷ last) (t.mark m.RightBrace ∷ us) (right_brace_cut (spaced_cut m.While (head_text e rest) tt (head false)) false)) in
      word_cut m.Do (body_text (lines_text a) last) tt (body false)
  stmt_cut (loop x y z body) h w rest ts k c =
      let lines = braces_cut (lines_cut body h.3 w.3 (125 ∷ rest) (t.mark m.RightBrace ∷ ts) (right_brace_cut (c false) false)) in
      let after = closing_text (32 ∷ body_text (lines_text body) rest) in
      let us = closing (in_braces (canon_lines body) ts) in
      let third = maybe_cut z h.2 w.2 after us closing_breaks (closing_cut (space_cut (lines true))) in
      let next = 59 ∷ 32 ∷ maybe_text z after in
      let vs = t.mark m.Semicolon ∷ canon_maybe z us in
      let second = maybe_cut y h.1 w.1 next vs semicolon_breaks (semicolon_cut third) in
      let first = maybe_cut x h.0 w.0 (59 ∷ 32 ∷ maybe_text y next) (t.mark m.Semicolon ∷ canon_maybe y vs) semicolon_breaks (semicolon_cut second) in
      word_cut m.For (40 ∷ maybe_text x (59 ∷ 32 ∷ maybe_text y next)) tt (opening_cut first)
  stmt_cut (walk x a body) h w rest ts k c =
      let lines = braces_cut (lines_cut body h w.2 (125 ∷ rest) (t.mark m.RightBrace ∷ ts) (right_brace_cut (c false) false)) in
      let after = closing_text (32 ∷ body_text (lines_text body) rest) in
      let array = name_cut a after w.1 closing_breaks (closing_cut (space_cut (lines true)) true) in
      let next = 32 ∷ 105 ∷ 110 ∷ 32 ∷ a ++ after in
      word_cut m.For (40 ∷ x ++ next) tt (opening_cut (name_cut x next w.0 space_breaks (spaced_cut m.In (a ++ after) tt array)))
  stmt_cut (go_out l) h w rest ts k c = leave_cut l rest ts k (c false)
  stmt_cut (exit_with e) h w rest ts k c =
      let breaks = operand_breaks e rest k in
      mark_cut m.Exit (operand_text e rest) breaks.no_name tt (operand_cut e h w rest ts k c)
  stmt_cut (return_with e) h w rest ts k c =
      let breaks = operand_breaks e rest k in
      mark_cut m.Return (operand_text e rest) breaks.no_name tt (operand_cut e h w rest ts k c)
  stmt_cut (delete a es) h w rest ts k c =
      let keys = list_cut None 0 es h.1 w.1 (93 ∷ rest) (t.mark m.RightBracket ∷ ts) bracket_breaks (right_bracket_cut (c true)) in
      let after = 91 ∷ list_text es (93 ∷ rest) in
      word_cut m.Delete (a ++ after) tt (token_cut (t.name a) after w.0 (refl, refl) tt (left_bracket_cut keys))
  stmt_cut (clear a) h w rest ts k c = word_cut m.Delete (a ++ rest) tt (name_cut a rest w k (c true))

  lines_cut : (xs : Stmts) → AreSoundStmts xs → AreWritableStmts xs → (rest : Text) (ts : List Tok) → CutFrom false rest ts → CutFrom false (lines_text xs rest) (canon_lines xs ts)
  lines_cut done h w rest ts c = c
  lines_cut (next x xs) h w rest ts c =
      stmt_cut x h.0 w.0 (10 ∷ lines_text xs rest) (t.mark m.Newline ∷ canon_lines xs ts) line_breaks (line_cut (lines_cut xs h.1 w.1 rest ts c))

-- ---- items

body_cut : (xs : Stmts) → AreSoundStmts xs → AreWritableStmts xs → (rest : Text) (ts : List Tok) → CutFrom false rest ts → CutAnyhow (body_text (lines_text xs) rest) (in_braces (canon_lines xs) ts)
body_cut xs h w rest ts c = braces_cut (lines_cut xs h w (125 ∷ rest) (t.mark m.RightBrace ∷ ts) (right_brace_cut c false))

other_names_break : (xs : List Text) (rest : Text) → Breaks (slice_index rest 0) → Breaks (slice_index (other_names_text xs rest) 0)
other_names_break [] rest k = k
other_names_break (x ∷ xs) rest k = comma_breaks

other_names_cut : (xs : List Text) → AreWritableNames xs → (rest : Text) (ts : List Tok) → Breaks (slice_index rest 0) → CutAnyhow rest ts → CutFrom true (other_names_text xs rest) (canon_names xs ts)
other_names_cut [] w rest ts k c = c true
other_names_cut (x ∷ xs) w rest ts k c =
    comma_cut (name_cut x (other_names_text xs rest) w.0 (other_names_break xs rest k) (other_names_cut xs w.1 rest ts k c))

names_cut : (xs : List Text) → AreWritableNames xs → (rest : Text) (ts : List Tok) → Breaks (slice_index rest 0) → CutAnyhow rest ts → CutFrom false (names_text xs rest) (canon_parameters xs ts)
names_cut [] w rest ts k c = c false
names_cut (x ∷ xs) w rest ts k c = name_cut x (other_names_text xs rest) w.0 (other_names_break xs rest k) (other_names_cut xs w.1 rest ts k c)

part_cut : (x : Part) → IsSoundPart x → IsWritablePart x → (rest : Text) (ts : List Tok) → CutFrom false rest ts → CutFrom false (part_text x rest) (canon_part x ts)
part_cut (begin a) h w rest ts c = word_cut m.Begin (body_text (lines_text a) rest) tt (body_cut a h w rest ts c false)
part_cut (end a) h w rest ts c = word_cut m.End (body_text (lines_text a) rest) tt (body_cut a h w rest ts c false)
part_cut (always a) h w rest ts c = body_cut a h w rest ts c false
part_cut (matching p a) h w rest ts c =
    tree_cut p h.0.1 w.0 false (tree_may_occur p) (32 ∷ body_text (lines_text a) rest) (in_braces (canon_lines a) ts) space_breaks (space_cut (body_cut a h.1 w.1 rest ts c true))
part_cut (between p q a) h w rest ts c =
    let after = 32 ∷ body_text (lines_text a) rest in
    let us = in_braces (canon_lines a) ts in
    let second = tree_cut q h.1.1 w.1 false (tree_may_occur q) after us space_breaks (space_cut (body_cut a h.2 w.2 rest ts c true)) in
    tree_cut p h.0.1 w.0 false (tree_may_occur p) (44 ∷ 32 ∷ tree_text q after) (t.mark m.Comma ∷ canon q us) comma_breaks (comma_cut second)
part_cut (define f ps a) h w rest ts c =
    let after = closing_text (32 ∷ body_text (lines_text a) rest) in
    let us = closing (in_braces (canon_lines a) ts) in
    let names = names_cut ps w.1 after us closing_breaks (closing_cut (space_cut (body_cut a h w.2 rest ts c true))) in
    word_cut m.Function (f ++ 40 ∷ names_text ps after) tt (token_cut (t.function_name f) (40 ∷ names_text ps after) w.0 refl tt (opening_cut names))

pub program_cut : (xs : List Part) → AreSoundParts xs → AreWritableParts xs → CutFrom false (program_text xs) (canon_program xs)
program_cut [] h w = at_end no_gap
program_cut (x ∷ xs) h w =
    part_cut x h.0 w.0 (10 ∷ program_text xs) (t.mark m.Newline ∷ canon_program xs) (line_cut (program_cut xs h.1 w.1) false)
