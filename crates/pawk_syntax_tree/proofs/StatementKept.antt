-- Statements that tokens derive are sound.
use Rattle.std.proofs.Common.{Bool, List, Option, refl}
use Rattle.pawk_lex.specs.Tokens.{Tok}
use Rattle.pawk_syntax_tree.specs.Tree.{Tree, Trees, value}
use Rattle.pawk_syntax_tree.specs.Grammar.{Derives}
use Rattle.pawk_syntax_tree.proofs.Sound.{each_some}
use Rattle.pawk_syntax_tree.proofs.Kept.{kept, each_kept, value_twice, sound_value}
use Rattle.pawk_syntax_tree.specs.Statement.{Stmt, Stmts, done, next, both}
use Rattle.pawk_syntax_tree.specs.StatementGrammar.{Maybe, missing, given, Printed, a_list, in_brackets, Simple, an_expression, a_bare_print, a_print, a_printf, a_leave, an_exit, a_return, a_delete, a_clear, Head, a_head, Means, a_simple, an_empty, a_block, an_if, an_else, a_while, a_do, a_for, a_walk, Lists, at_brace, further}
use Rattle.pawk_syntax_tree.specs.StatementCanonical.{Counts, MayCount, AreListed, IsSoundStmt, AreSoundStmts}

pub counts : {c : Bool} {ts rest : List Tok} {a : Tree} → Derives c 0 ts rest a → Counts (value a)
counts {a = a} d = (value_twice a, sound_value a (kept d))

may_count : {ts rest : List Tok} {e : Option Tree} → Maybe ts rest e → MayCount e
may_count missing = tt
may_count (given d) = counts d

listed : {ts rest : List Tok} {bs : Trees} → Printed ts rest bs → AreListed bs
listed (a_list d) = (each_some d, each_kept d)
listed (in_brackets d) = (each_some d, each_kept d)

head_counts : {ts rest : List Tok} {a : Tree} → Head ts rest a → Counts a
head_counts (a_head d gap) = counts d

simple_kept : {ts rest : List Tok} {x : Stmt} → Simple ts rest x → IsSoundStmt x
simple_kept (an_expression d) = counts d
simple_kept a_bare_print = (tt, (refl, (tt, refl, tt), tt))
simple_kept (a_print d) = listed d
simple_kept (a_printf d) = listed d
simple_kept a_leave = tt
simple_kept (an_exit d) = may_count d
simple_kept (a_return d) = may_count d
simple_kept (a_delete d) = (each_some d, each_kept d)
simple_kept a_clear = tt

both_sound : (a b : Stmts) → AreSoundStmts a → AreSoundStmts b → AreSoundStmts (both a b)
both_sound done b h k = k
both_sound (next x xs) b h k = (h.0, both_sound xs b h.1 k)

mutual
  pub means_kept : {ts rest : List Tok} {xs : Stmts} → Means ts rest xs → AreSoundStmts xs
  means_kept (a_simple d e) = (simple_kept d, tt)
  means_kept (an_empty gap) = tt
  means_kept (a_block gap d after) = lists_kept d
  means_kept (an_if d k free) = ((head_counts d, means_kept k), tt)
  means_kept (an_else d k gap q) = ((head_counts d, means_kept k, means_kept q), tt)
  means_kept (a_while d k) = ((head_counts d, means_kept k), tt)
  means_kept (a_do gap k d e) = ((counts d, means_kept k), tt)
  means_kept (a_for p q r gap k) = ((may_count p, may_count q, may_count r, means_kept k), tt)
  means_kept (a_walk gap k) = (means_kept k, tt)

  pub lists_kept : {ts rest : List Tok} {xs : Stmts} → Lists ts rest xs → AreSoundStmts xs
  lists_kept at_brace = tt
  lists_kept (further {a = a} {b = b} d e) = both_sound a b (means_kept d) (lists_kept e)
