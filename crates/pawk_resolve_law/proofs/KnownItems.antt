-- Statements and items that are sound, and whose names are known, are proper.
use Rattle.std.proofs.Common.{Bool, true, false, ◌++◌, Option, Some, None, IfSome}
use Rattle.pawk_syntax_tree.specs.Tree.{Tree, Trees, none, more}
use Rattle.pawk_syntax_tree.specs.Canonical.{IsSome}
use Rattle.pawk_syntax_tree.specs.Statement.{Stmt, eval, print, printf, when, choose, repeat, do_while, loop, walk, go_out, exit_with, return_with, delete, clear, Stmts, done, next}
use Rattle.pawk_syntax_tree.specs.StatementCanonical.{Counts, MayCount, AreListed, IsSoundStmt, AreSoundStmts}
use Rattle.pawk_syntax_tree.specs.Item.{Part, begin, end, always, matching, between, define}
use Rattle.pawk_syntax_tree.specs.ItemCanonical.{IsSoundPart}
use Rattle.pawk_syntax_show.proofs.WritableTree.{IsWritableTree, AreWritableTrees}
use Rattle.pawk_syntax_show.proofs.WritableProgram.{MayWrite, IsWritableStmt, AreWritableStmts, IsWritablePart}
use Rattle.pawk_syntax_check.specs.Mentions.{Mention, as_value, of_value, of_values}
use Rattle.pawk_syntax_check.specs.Mentions as mention
use Rattle.pawk_resolve.specs.Scopes.{Scope}
use Rattle.pawk_resolve_law.proofs.Slashed.{of_tree, of_trees}
use Rattle.pawk_resolve_law.proofs.Slashed as slashed
use Rattle.pawk_resolve_law.specs.Proper.{IsProper, AreProper}
use Rattle.pawk_resolve_law.specs.ProperStatements.{IsProperStatement, IsProperBody}
use Rattle.pawk_resolve_law.proofs.Known.{AreKnown, AreExpressions, known_parts, expression_parts, proper, all_proper}

module _ (s : Scope) where
  value_proper : (e : Tree) → Counts e → IsWritableTree e → AreKnown s (of_value e) → AreExpressions s (of_tree e) → IsProper s e
  value_proper e c w k x = proper s e (c.0, c.1, w, k, x)

  values_proper : (es : Trees) → AreListed es → AreWritableTrees es → AreKnown s (of_values es) → AreExpressions s (of_trees es) → AreProper s es
  values_proper es c w k x = all_proper s es (c.1, w, k, x)

  option_proper : (o : Option Tree) → MayCount o → MayWrite o → AreKnown s (mention.of_option o) → AreExpressions s (slashed.of_option o) → IfSome o (IsProper s)
  option_proper None c w k x = tt
  option_proper (Some e) c w k x = value_proper e c w k x

  printf_proper : (es : Trees) → IsSome es → AreProper s es → IsProperStatement s (printf es)
  printf_proper none i h = absurd i
  printf_proper (more f es) i h = h

  mutual
    statement_proper : (x : Stmt) (in_loop : Bool) → IsSoundStmt x → IsWritableStmt x → AreKnown s (mention.of_statement in_loop x) →
        AreExpressions s (slashed.of_statement x) → IsProperStatement s x
    statement_proper (eval e) l c w k x = value_proper e c w k x
    statement_proper (print es) l c w k x = values_proper es c w k x
    statement_proper (printf es) l c w k x = printf_proper es c.0 (values_proper es c w k x)
    statement_proper (when e a) l c w k x =
        let known = known_parts s (of_value e) (mention.of_body l a) k in
        let found = expression_parts s (of_tree e) (slashed.of_body a) x in
        (value_proper e c.0 w.0 known.0 found.0, body_proper a l c.1 w.1 known.1 found.1)
    statement_proper (choose e a d) l c w k x =
        let known = known_parts s (of_value e ++ mention.of_body l a) (mention.of_body l d) k in
        let before = known_parts s (of_value e) (mention.of_body l a) known.0 in
        let found = expression_parts s (of_tree e ++ slashed.of_body a) (slashed.of_body d) x in
        let front = expression_parts s (of_tree e) (slashed.of_body a) found.0 in
        (value_proper e c.0 w.0 before.0 front.0, body_proper a l c.1 w.1 before.1 front.1, body_proper d l c.2 w.2 known.1 found.1)
    statement_proper (repeat e a) l c w k x =
        let known = known_parts s (of_value e) (mention.of_body true a) k in
        let found = expression_parts s (of_tree e) (slashed.of_body a) x in
        (value_proper e c.0 w.0 known.0 found.0, body_proper a true c.1 w.1 known.1 found.1)
    statement_proper (do_while a e) l c w k x =
        let known = known_parts s (of_value e) (mention.of_body true a) k in
        let found = expression_parts s (slashed.of_body a) (of_tree e) x in
        (body_proper a true c.1 w.0 known.1 found.0, value_proper e c.0 w.1 known.0 found.1)
    statement_proper (loop a d e body) l c w k x =
        let known = known_parts s (mention.of_option a ++ mention.of_option d ++ mention.of_option e) (mention.of_body true body) k in
        let three = known_parts s (mention.of_option a ++ mention.of_option d) (mention.of_option e) known.0 in
        let two = known_parts s (mention.of_option a) (mention.of_option d) three.0 in
        let found = expression_parts s (slashed.of_option a ++ slashed.of_option d ++ slashed.of_option e) (slashed.of_body body) x in
        let third = expression_parts s (slashed.of_option a ++ slashed.of_option d) (slashed.of_option e) found.0 in
        let second = expression_parts s (slashed.of_option a) (slashed.of_option d) third.0 in (
          option_proper a c.0 w.0 two.0 second.0,
          option_proper d c.1 w.1 two.1 second.1,
          option_proper e c.2 w.2 three.1 third.1,
          body_proper body true c.3 w.3 known.1 found.1,
        )
    statement_proper (walk y z a) l c w k x = (k.0.1, k.0.0, k.1.0, body_proper a true c w.2 k.1.1 x)
    statement_proper (go_out word) l c w k x = tt
    statement_proper (exit_with e) l c w k x = option_proper e c w k x
    statement_proper (return_with e) l c w k x = option_proper e c w k.1 x
    statement_proper (delete y es) l c w k x = (k.0, values_proper es c w.1 k.1 x)
    statement_proper (clear y) l c w k x = k.0

    body_proper : (xs : Stmts) (in_loop : Bool) → AreSoundStmts xs → AreWritableStmts xs → AreKnown s (mention.of_body in_loop xs) →
        AreExpressions s (slashed.of_body xs) → IsProperBody s xs
    body_proper done l c w k x = tt
    body_proper (next y ys) l c w k x =
        let known = known_parts s (mention.of_statement l y) (mention.of_body l ys) k in
        let found = expression_parts s (slashed.of_statement y) (slashed.of_body ys) x in
        (statement_proper y l c.0 w.0 known.0 found.0, body_proper ys l c.1 w.1 known.1 found.1)

  -- an item of a program that passed the checks
  abbrev pub IsProperItem : Part → Type 0
  IsProperItem (begin a) = IsProperBody s a
  IsProperItem (end a) = IsProperBody s a
  IsProperItem (always a) = IsProperBody s a
  IsProperItem (matching e a) = IsProper s e × IsProperBody s a
  IsProperItem (between e f a) = IsProper s e × IsProper s f × IsProperBody s a
  IsProperItem (define f ps a) = IsProperBody s a

  pub item_proper : (p : Part) → IsSoundPart p → IsWritablePart p → AreKnown s (mention.of_part p) → AreExpressions s (slashed.of_part p) → IsProperItem p
  item_proper (begin a) c w k x = body_proper a false c w k x
  item_proper (end a) c w k x = body_proper a false c w k x
  item_proper (always a) c w k x = body_proper a false c w k x
  item_proper (matching e a) c w k x =
      let known = known_parts s (of_value e) (mention.of_body false a) k in
      let found = expression_parts s (of_tree e) (slashed.of_body a) x in
      (value_proper e c.0 w.0 known.0 found.0, body_proper a false c.1 w.1 known.1 found.1)
  item_proper (between e f a) c w k x =
      let known = known_parts s (of_value e ++ of_value f) (mention.of_body false a) k in
      let before = known_parts s (of_value e) (of_value f) known.0 in
      let found = expression_parts s (of_tree e ++ of_tree f) (slashed.of_body a) x in
      let front = expression_parts s (of_tree e) (of_tree f) found.0 in
      (value_proper e c.0 w.0 before.0 front.0, value_proper f c.1 w.1 before.1 front.1, body_proper a false c.2 w.2 known.1 found.1)
  item_proper (define f ps a) c w k x = body_proper a false c w.2 k x
