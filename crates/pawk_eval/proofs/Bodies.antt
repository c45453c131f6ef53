-- Statements of a body in turn: one that leaves nothing.
use Rattle.std.proofs.Common.{◌≡◌, ℕ, suc, ◌<◌, List, ◌∷◌, ap, sym, ◌∙◌, refl, drop, drop-cons, get_or, length}
use Rattle.pawk_value.specs.Value.{Val}
use Rattle.pawk_world.specs.Worlds.{Calls}
use Rattle.pawk_code.specs.declared.statement.Simple.{Simple}
use Rattle.pawk_code.specs.declared.statement.Statement.{Statement}
use Rattle.pawk_code.specs.declared.statement.Statement.TheVariants as statement
use Rattle.pawk_code.specs.Statements.{Stmts}
use Rattle.pawk_code.specs.StatementViews.{seen, simple_view, stmt_view}
use Rattle.pawk_store.specs.Parts.{Hold, Moment, Outcome, gives, halts, Part, give, tick, then_do, bind}
use Rattle.pawk_store.specs.Meaning.{act, exec, execs, and_then, on}
use Rattle.pawk_eval.proofs.Shapes.{simple_shape}

module _ {S : Type 0} (calls : Calls S) (eres : List (List ℕ)) (enter : ℕ → List Hold → Part S Val) where
  goes_on : (o : Outcome S (Unit {0})) (rest : Stmts) → then_do (then_do o (λ _. give on)) (and_then (execs calls eres enter rest)) ≡ then_do o (λ _. execs calls eres enter rest)
  goes_on (gives u m) rest = refl
  goes_on (halts h s st t) rest = refl

  -- one statement that leaves nothing, and those after it
  pub simple_next : (ss : List Statement) (i : ℕ) (s : Statement) (x : Simple) (m m1 : Moment S) → i < length ss → s ≡ get_or ss i s → s ≡ statement.Simple x → tick m ≡ gives tt m1 → execs calls eres enter (seen (drop i ss)) m ≡ then_do (act calls eres enter (simple_view x) m1) (λ _. execs calls eres enter (seen (drop (suc i) ss)))
  simple_next ss i s x m m1 lt is simple ticked =
      ap (λ xs. execs calls eres enter (seen xs) m) (drop-cons ss i s lt ∙ ap (λ y. y ∷ drop (suc i) ss) (sym is))
      ∙ ap (λ o. then_do o (λ _. bind (exec calls eres enter (stmt_view s)) (and_then (execs calls eres enter (seen (drop (suc i) ss)))))) ticked
      ∙ ap (λ st. bind (exec calls eres enter st) (and_then (execs calls eres enter (seen (drop (suc i) ss)))) m1) (simple_shape s x simple)
      ∙ goes_on (act calls eres enter (simple_view x) m1) (seen (drop (suc i) ss))
