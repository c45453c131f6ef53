-- The expressions of a program are those of the tokens that derive it.
use Rattle.std.proofs.Common.{◌≡◌, Bool, true, false, List, [], ◌∷◌, Option, refl, sym, ap, ◌∙◌}
use Rattle.pawk_lex.specs.declared.token.Mark.TheVariants as m
use Rattle.pawk_lex.specs.Bytes.{Text}
use Rattle.pawk_lex.specs.Tokens.{Tok}
use Rattle.pawk_lex.specs.Tokens as t
use Rattle.pawk_syntax_tree.specs.Tree.{Tree, Trees, value}
use Rattle.pawk_syntax_tree.specs.Grammar.{Derives}
use Rattle.pawk_syntax_tree.specs.Statement.{Stmt, Stmts, done, next, both}
use Rattle.pawk_syntax_tree.specs.StatementGrammar.{End, by_semicolon, by_line, by_brace, Maybe, missing, given, Printed, a_list, in_brackets, Simple, an_expression, a_bare_print, a_print, a_printf, a_leave, an_exit, a_return, a_delete, a_clear, Head, a_head, Means, a_simple, an_empty, a_block, an_if, an_else, a_while, a_do, a_for, a_walk, Lists, at_brace, further}
use Rattle.pawk_syntax_tree.specs.Item.{Part}
use Rattle.pawk_syntax_tree.specs.ItemGrammar.{Action, an_action, Parameters, last_parameter, a_parameter, AllParameters, no_parameter, some_parameters, Named, by_name, by_call, Is, a_begin, an_end, a_rule, a_pattern, a_bare_pattern, a_range, a_bare_range, a_function, Separators, no_more, a_semicolon, a_newline, Separates, Items, no_item, an_item, Programs, a_program}
use Rattle.pawk_syntax_grammar.specs.Expressions.{eres, in_tree, in_trees, in_option, in_stmt, in_stmts, in_part, eres_of_program}
use Rattle.pawk_syntax_grammar.proofs.DerivedTrees.{over_lines, of_value, derived, derived_each}

-- an expression whose value counts
counted : {c : Bool} {ts rest : List Tok} {a : Tree} → Derives c 0 ts rest a → eres ts ≡ in_tree (value a) (eres rest)
counted {rest = rest} {a = a} d = derived d ∙ sym (of_value a (eres rest))

over_end : {ts rest : List Tok} → End ts rest → eres ts ≡ eres rest
over_end (by_semicolon gap) = over_lines gap
over_end (by_line gap) = over_lines gap
over_end by_brace = refl

derived_maybe : {ts rest : List Tok} {e : Option Tree} → Maybe ts rest e → eres ts ≡ in_option e (eres rest)
derived_maybe missing = refl
derived_maybe (given d) = counted d

derived_list : {ts rest : List Tok} {bs : Trees} → Printed ts rest bs → eres ts ≡ in_trees bs (eres rest)
derived_list (a_list d) = derived_each d
derived_list (in_brackets d) = derived_each d

derived_head : {ts rest : List Tok} {a : Tree} → Head ts rest a → eres ts ≡ in_tree a (eres rest)
derived_head (a_head {a = a} d gap) = counted d ∙ ap (in_tree (value a)) (over_lines gap)

derived_simple : {ts rest : List Tok} {x : Stmt} → Simple ts rest x → eres ts ≡ in_stmt x (eres rest)
derived_simple (an_expression d) = counted d
derived_simple a_bare_print = refl
derived_simple (a_print d) = derived_list d
derived_simple (a_printf d) = derived_list d
derived_simple a_leave = refl
derived_simple (an_exit d) = derived_maybe d
derived_simple (a_return d) = derived_maybe d
derived_simple (a_delete d) = derived_each d
derived_simple a_clear = refl

of_both : (a b : Stmts) (rest : List Text) → in_stmts (both a b) rest ≡ in_stmts a (in_stmts b rest)
of_both done b rest = refl
of_both (next x xs) b rest = ap (in_stmt x) (of_both xs b rest)

mutual
  derived_stmts : {ts rest : List Tok} {xs : Stmts} → Means ts rest xs → eres ts ≡ in_stmts xs (eres rest)
  derived_stmts (a_simple {x = x} d e) = derived_simple d ∙ ap (in_stmt x) (over_end e)
  derived_stmts (an_empty gap) = over_lines gap
  derived_stmts (a_block {xs = xs} gap d after) = over_lines gap ∙ (derived_lines d ∙ ap (in_stmts xs) (over_lines after))
  derived_stmts (an_if {e = e} d k free) = derived_head d ∙ ap (in_tree e) (derived_stmts k)
  derived_stmts (an_else {e = e} {a = a} d k gap q) =
      derived_head d ∙ ap (in_tree e) (derived_stmts k ∙ ap (in_stmts a) (over_lines gap ∙ derived_stmts q))
  derived_stmts (a_while {e = e} d k) = derived_head d ∙ ap (in_tree e) (derived_stmts k)
  derived_stmts (a_do {e = e} {a = a} gap k d end) =
      over_lines gap ∙ (derived_stmts k ∙ ap (in_stmts a) (counted d ∙ ap (in_tree (value e)) (over_end end)))
  derived_stmts (a_for {a = a} {b = b} {c = c} p q r gap k) =
      derived_maybe p ∙ ap (in_option a) (derived_maybe q ∙ ap (in_option b) (derived_maybe r ∙ ap (in_option c) (over_lines gap ∙ derived_stmts k)))
  derived_stmts (a_walk gap k) = over_lines gap ∙ derived_stmts k

  derived_lines : {ts rest : List Tok} {xs : Stmts} → Lists ts rest xs → eres ts ≡ in_stmts xs (eres rest)
  derived_lines at_brace = refl
  derived_lines (further {rest = rest} {a = a} {b = b} d e) = derived_stmts d ∙ (ap (in_stmts a) (derived_lines e) ∙ sym (of_both a b (eres rest)))

derived_action : {ts rest : List Tok} {a : Stmts} → Action ts rest a → eres ts ≡ in_stmts a (eres rest)
derived_action (an_action gap d) = over_lines gap ∙ derived_lines d

over_parameters : {ts rest : List Tok} {xs : List Text} → Parameters ts rest xs → eres ts ≡ eres rest
over_parameters last_parameter = refl
over_parameters (a_parameter gap ps) = over_lines gap ∙ over_parameters ps

over_all : {ts rest : List Tok} {xs : List Text} → AllParameters ts rest xs → eres ts ≡ eres rest
over_all no_parameter = refl
over_all (some_parameters ps) = over_parameters ps

over_name : {x : Tok} {f : Text} (ts : List Tok) → Named x f → eres (x ∷ ts) ≡ eres ts
over_name ts by_name = refl
over_name ts by_call = refl

derived_part : {ts rest : List Tok} {x : Part} {closes : Bool} → Is ts rest x closes → eres ts ≡ in_part x (eres rest)
derived_part (a_begin d) = derived_action d
derived_part (an_end d) = derived_action d
derived_part (a_rule d) = derived_action d
derived_part (a_pattern {p = p} q d) = counted q ∙ ap (in_tree (value p)) (derived_action d)
derived_part (a_bare_pattern q) = counted q
derived_part (a_range {p = p} {q = q} d gap e f) =
    counted d ∙ ap (in_tree (value p)) (over_lines gap ∙ (counted e ∙ ap (in_tree (value q)) (derived_action f)))
derived_part (a_bare_range {p = p} d gap e) = counted d ∙ ap (in_tree (value p)) (over_lines gap ∙ counted e)
derived_part (a_function {ts = ts} is ps gap d) =
    over_name (t.mark m.LeftParenthesis ∷ ts) is ∙ (over_all ps ∙ (over_lines gap ∙ derived_action d))

over_separators : {ts rest : List Tok} → Separators ts rest → eres ts ≡ eres rest
over_separators no_more = refl
over_separators (a_semicolon gap) = over_separators gap
over_separators (a_newline gap) = over_separators gap

over_between : (closes : Bool) (ts rest : List Tok) → Separates closes ts rest → eres ts ≡ eres rest
over_between true ts rest gap = over_separators gap
over_between false [] rest gap = ap eres (sym gap)
over_between false (t.mark m.Semicolon ∷ ts) rest gap = over_separators gap
over_between false (t.mark m.Newline ∷ ts) rest gap = over_separators gap
over_between false _ rest gap = absurd gap

derived_items : {ts : List Tok} {xs : List Part} → Items ts xs → eres ts ≡ eres_of_program xs
derived_items no_item = refl
derived_items (an_item {mid = mid} {rest = rest} {x = x} {closes = closes} d gap ds) =
    derived_part d ∙ ap (in_part x) (over_between closes mid rest gap ∙ derived_items ds)

pub derived_program : (ts : List Tok) (xs : List Part) → Programs ts xs → eres ts ≡ eres_of_program xs
derived_program ts xs (a_program gap ds) = over_lines gap ∙ derived_items ds
