-- Statements and items that writable tokens derive have writable names, numbers, strings and expressions between slashes.
use Rattle.std.proofs.Common.{Bool, true, false, List, [], ◌∷◌, Option, Some, None}
use Rattle.pawk_lex.specs.declared.token.Mark.TheVariants as m
use Rattle.pawk_lex.specs.Bytes.{Text}
use Rattle.pawk_lex.specs.Tokens.{Tok}
use Rattle.pawk_lex.specs.Tokens as t
use Rattle.pawk_lex.specs.Canonical.{IsWritable, AreWritable}
use Rattle.pawk_syntax_tree.specs.Tree.{Tree, Trees}
use Rattle.pawk_syntax_tree.specs.Statement.{Stmt, eval, print, printf, when, choose, repeat, do_while, loop, walk, go_out, exit_with, return_with, delete, clear, Stmts, done, next, both}
use Rattle.pawk_syntax_tree.specs.StatementGrammar.{End, by_semicolon, by_line, by_brace, Maybe, missing, given, Printed, a_list, in_brackets, Simple, an_expression, a_bare_print, a_print, a_printf, a_leave, an_exit, a_return, a_delete, a_clear, Head, a_head, Means, a_simple, an_empty, a_block, an_if, an_else, a_while, a_do, a_for, a_walk, Lists, at_brace, further}
use Rattle.pawk_syntax_tree.specs.Item.{Part, begin, end, always, matching, between, define, print_record}
use Rattle.pawk_syntax_tree.specs.ItemGrammar.{Action, an_action, Parameters, last_parameter, a_parameter, AllParameters, no_parameter, some_parameters, Named, by_name, by_call, Is, a_begin, an_end, a_rule, a_pattern, a_bare_pattern, a_range, a_bare_range, a_function, Separators, no_more, a_semicolon, a_newline, Separates, Items, no_item, an_item, Programs, a_program}
use Rattle.pawk_syntax_show.proofs.WritableTree.{IsWritableTree, AreWritableTrees, Leaves, LeaveAll, record_writable, value_writable, lines_writable, derived_writable, each_writable}

abbrev pub MayWrite : Option Tree → Type 0
MayWrite None = Unit {0}
MayWrite (Some e) = IsWritableTree e

abbrev mutual
  pub IsWritableStmt : Stmt → Type 0
  IsWritableStmt (eval e) = IsWritableTree e
  IsWritableStmt (print es) = AreWritableTrees es
  IsWritableStmt (printf es) = AreWritableTrees es
  IsWritableStmt (when e a) = IsWritableTree e × AreWritableStmts a
  IsWritableStmt (choose e a b) = IsWritableTree e × AreWritableStmts a × AreWritableStmts b
  IsWritableStmt (repeat e a) = IsWritableTree e × AreWritableStmts a
  IsWritableStmt (do_while a e) = AreWritableStmts a × IsWritableTree e
  IsWritableStmt (loop a b c body) = MayWrite a × MayWrite b × MayWrite c × AreWritableStmts body
  IsWritableStmt (walk k a body) = IsWritable (t.name k) × IsWritable (t.name a) × AreWritableStmts body
  IsWritableStmt (go_out l) = Unit {0}
  IsWritableStmt (exit_with e) = MayWrite e
  IsWritableStmt (return_with e) = MayWrite e
  IsWritableStmt (delete a es) = IsWritable (t.name a) × AreWritableTrees es
  IsWritableStmt (clear a) = IsWritable (t.name a)

  pub AreWritableStmts : Stmts → Type 0
  AreWritableStmts done = Unit {0}
  AreWritableStmts (next x xs) = IsWritableStmt x × AreWritableStmts xs

abbrev pub AreWritableNames : List Text → Type 0
AreWritableNames [] = Unit {0}
AreWritableNames (x ∷ xs) = IsWritable (t.name x) × AreWritableNames xs

abbrev pub IsWritablePart : Part → Type 0
IsWritablePart (begin a) = AreWritableStmts a
IsWritablePart (end a) = AreWritableStmts a
IsWritablePart (always a) = AreWritableStmts a
IsWritablePart (matching p a) = IsWritableTree p × AreWritableStmts a
IsWritablePart (between p q a) = IsWritableTree p × IsWritableTree q × AreWritableStmts a
IsWritablePart (define f ps a) = IsWritable (t.function_name f) × AreWritableNames ps × AreWritableStmts a

abbrev pub AreWritableParts : List Part → Type 0
AreWritableParts [] = Unit {0}
AreWritableParts (x ∷ xs) = IsWritablePart x × AreWritableParts xs

-- ---- statements

end_writable : {ts rest : List Tok} → End ts rest → AreWritable ts → AreWritable rest
end_writable (by_semicolon n) g = lines_writable n g.1
end_writable (by_line n) g = lines_writable n g.1
end_writable by_brace g = g

maybe_writable : {ts rest : List Tok} {e : Option Tree} → Maybe ts rest e → AreWritable ts → MayWrite e × AreWritable rest
maybe_writable missing g = (tt, g)
maybe_writable (given {a = a} d) g = let h = derived_writable d g in (value_writable a h.0, h.1)

printed_writable : {ts rest : List Tok} {bs : Trees} → Printed ts rest bs → AreWritable ts → LeaveAll bs rest
printed_writable (a_list ds) g = each_writable ds g
printed_writable (in_brackets ds) g = let h = each_writable ds g.1 in (h.0, h.1.1)

simple_writable : {ts rest : List Tok} {x : Stmt} → Simple ts rest x → AreWritable ts → IsWritableStmt x × AreWritable rest
simple_writable (an_expression {a = a} d) g = let h = derived_writable d g in (value_writable a h.0, h.1)
simple_writable a_bare_print g = ((record_writable, tt), g.1)
simple_writable (a_print p) g = printed_writable p g.1
simple_writable (a_printf p) g = printed_writable p g.1
simple_writable a_leave g = (tt, g.1)
simple_writable (an_exit e) g = maybe_writable e g.1
simple_writable (a_return e) g = maybe_writable e g.1
simple_writable (a_delete ds) g = let h = each_writable ds g.1.1.1 in ((g.1.0, h.0), h.1.1)
simple_writable a_clear g = (g.1.0, g.1.1)

head_writable : {ts rest : List Tok} {e : Tree} → Head ts rest e → AreWritable ts → Leaves e rest
head_writable (a_head {a = a} d n) g = let h = derived_writable d g.1 in (value_writable a h.0, lines_writable n h.1.1)

both_writable : (a b : Stmts) → AreWritableStmts a → AreWritableStmts b → AreWritableStmts (both a b)
both_writable done b h k = k
both_writable (next x xs) b h k = (h.0, both_writable xs b h.1 k)

abbrev LeaveStmts : Stmts → List Tok → Type 0
LeaveStmts xs rest = AreWritableStmts xs × AreWritable rest

mutual
  means_writable : {ts rest : List Tok} {xs : Stmts} → Means ts rest xs → AreWritable ts → LeaveStmts xs rest
  means_writable (a_simple d e) g = let h = simple_writable d g in ((h.0, tt), end_writable e h.1)
  means_writable (an_empty n) g = (tt, lines_writable n g.1)
  means_writable (a_block n d last) g = let h = lists_writable d (lines_writable n g.1) in (h.0, lines_writable last h.1)
  means_writable (an_if d k free) g =
      let h = head_writable d g.1 in
      let i = means_writable k h.1 in
      (((h.0, i.0), tt), i.1)
  means_writable (an_else d k n q) g =
      let h = head_writable d g.1 in
      let i = means_writable k h.1 in
      let j = means_writable q (lines_writable n i.1.1) in
      (((h.0, i.0, j.0), tt), j.1)
  means_writable (a_while d k) g =
      let h = head_writable d g.1 in
      let i = means_writable k h.1 in
      (((h.0, i.0), tt), i.1)
  means_writable (a_do {e = e} n k d f) g =
      let h = means_writable k (lines_writable n g.1) in
      let i = derived_writable d h.1.1.1 in
      (((h.0, value_writable e i.0), tt), end_writable f i.1.1)
  means_writable (a_for p q r n k) g =
      let h = maybe_writable p g.1.1 in
      let i = maybe_writable q h.1.1 in
      let j = maybe_writable r i.1.1 in
      let l = means_writable k (lines_writable n j.1.1) in
      (((h.0, i.0, j.0, l.0), tt), l.1)
  means_writable (a_walk n k) g =
      let names = g.1.1 in
      let h = means_writable k (lines_writable n names.1.1.1.1) in
      (((names.0, names.1.1.0, h.0), tt), h.1)

  lists_writable : {ts rest : List Tok} {xs : Stmts} → Lists ts rest xs → AreWritable ts → LeaveStmts xs rest
  lists_writable at_brace g = (tt, g.1)
  lists_writable (further {a = a} {b = b} d e) g =
      let h = means_writable d g in
      let i = lists_writable e h.1 in
      (both_writable a b h.0 i.0, i.1)

-- ---- items

action_writable : {ts rest : List Tok} {a : Stmts} → Action ts rest a → AreWritable ts → LeaveStmts a rest
action_writable (an_action n d) g = lists_writable d (lines_writable n g.1)

parameters_writable : {ts rest : List Tok} {xs : List Text} → Parameters ts rest xs → AreWritable ts → AreWritableNames xs × AreWritable rest
parameters_writable last_parameter g = ((g.0, tt), g.1.1)
parameters_writable (a_parameter n ps) g = let h = parameters_writable ps (lines_writable n g.1.1) in ((g.0, h.0), h.1)

all_parameters_writable : {ts rest : List Tok} {xs : List Text} → AllParameters ts rest xs → AreWritable ts → AreWritableNames xs × AreWritable rest
all_parameters_writable no_parameter g = (tt, g.1)
all_parameters_writable (some_parameters ps) g = parameters_writable ps g

named_writable : {x : Tok} {f : Text} → Named x f → IsWritable x → IsWritable (t.function_name f)
named_writable by_name h = h
named_writable by_call h = h

print_writable : AreWritableStmts print_record
print_writable = ((record_writable, tt), tt)

part_writable : {ts rest : List Tok} {x : Part} {closes : Bool} → Is ts rest x closes → AreWritable ts → IsWritablePart x × AreWritable rest
part_writable (a_begin d) g = action_writable d g.1
part_writable (an_end d) g = action_writable d g.1
part_writable (a_rule d) g = action_writable d g
part_writable (a_pattern {p = p} k d) g =
    let h = derived_writable k g in
    let i = action_writable d h.1 in
    ((value_writable p h.0, i.0), i.1)
part_writable (a_bare_pattern {p = p} k) g = let h = derived_writable k g in ((value_writable p h.0, print_writable), h.1)
part_writable (a_range {p = p} {q = q} k n l d) g =
    let h = derived_writable k g in
    let i = derived_writable l (lines_writable n h.1.1) in
    let j = action_writable d i.1 in
    ((value_writable p h.0, value_writable q i.0, j.0), j.1)
part_writable (a_bare_range {p = p} {q = q} k n l) g =
    let h = derived_writable k g in
    let i = derived_writable l (lines_writable n h.1.1) in
    ((value_writable p h.0, value_writable q i.0, print_writable), i.1)
part_writable (a_function f ps n d) g =
    let h = all_parameters_writable ps g.1.1.1 in
    let i = action_writable d (lines_writable n h.1) in
    ((named_writable f g.1.0, h.0, i.0), i.1)

separators_writable : {ts rest : List Tok} → Separators ts rest → AreWritable ts → AreWritable rest
separators_writable no_more g = g
separators_writable (a_semicolon s) g = separators_writable s g.1
separators_writable (a_newline s) g = separators_writable s g.1

separated_writable : (closes : Bool) (ts rest : List Tok) → Separates closes ts rest → AreWritable ts → AreWritable rest
separated_writable true ts rest s g = separators_writable s g
separated_writable false [] rest e g = rw e tt
separated_writable false (t.mark m.Semicolon ∷ ts) rest s g = separators_writable s g.1
separated_writable false (t.mark m.Newline ∷ ts) rest s g = separators_writable s g.1
separated_writable false (_ ∷ ts) rest s g = absurd s

items_writable : {ts : List Tok} {xs : List Part} → Items ts xs → AreWritable ts → AreWritableParts xs
items_writable no_item g = tt
items_writable (an_item {mid = mid} {rest = rest} {closes = closes} d s ds) g =
    let h = part_writable d g in
    (h.0, items_writable ds (separated_writable closes mid rest s h.1))

pub program_writable : {ts : List Tok} {xs : List Part} → Programs ts xs → AreWritable ts → AreWritableParts xs
program_writable (a_program n ds) g = items_writable ds (lines_writable n g)
