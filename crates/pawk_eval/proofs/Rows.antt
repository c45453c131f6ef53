-- Code in rows: what an element weighs, and where one halts.
use Rattle.std.proofs.Common.{◌≡◌, ℕ, zero, suc, ◌+◌, ◌<◌, List, [], ◌∷◌, ◌++◌, arith, get_or, length, drop, drop-cons, ap, sym, ◌∙◌, slice_get, Some}
use Rattle.pawk_value.specs.Value.{Val}
use Rattle.pawk_world.specs.Halts.{Halt}
use Rattle.pawk_world.specs.Worlds.{Calls}
use Rattle.pawk_store.specs.RecordStates.{RecordState}
use Rattle.pawk_code.specs.declared.expression.Expr.{Expr}
use Rattle.pawk_code.specs.declared.expression.Argument.{Argument}
use Rattle.pawk_code.specs.declared.expression.Argument as code_argument
use Rattle.pawk_code.specs.declared.statement.Statement.{Statement}
use Rattle.pawk_code.specs.Expressions.{exprs, arguments}
use Rattle.pawk_code.specs.ExpressionViews.{view, views, argument_view, argument_views}
use Rattle.pawk_code.specs.StatementViews.{seen, stmt_view}
use Rattle.pawk_store.specs.Parts.{Hold, value, Moment, halts, Part, give, then_do, as_text}
use Rattle.pawk_store.specs.Meaning.{eval, texts_of, values_of, argument_of, arguments_of}
use Rattle.pawk_eval.proofs.AppendedText.{text_halts}
use Rattle.pawk_eval.proofs.Weights.{weight, row_weight, argument_weight, arguments_weight, statement_weight, body_weight}

pub expr_in_row : (es : List Expr) (i : ℕ) (e : Expr) → i < length es → weight (view (get_or es i e)) + 3 < row_weight (exprs (views es))
expr_in_row [] i e h = omega arith
expr_in_row (x ∷ es) zero e h = omega arith
expr_in_row (x ∷ es) (suc i) e h = let r = expr_in_row es i e (omega arith) in omega arith

pub argument_in_row : (as' : List Argument) (i : ℕ) (a : Argument) → i < length as' → argument_weight (argument_view (get_or as' i a)) < arguments_weight (arguments (argument_views as'))
argument_in_row [] i a h = omega arith
argument_in_row (x ∷ as') zero a h = omega arith
argument_in_row (x ∷ as') (suc i) a h = let r = argument_in_row as' i a (omega arith) in omega arith

pub statement_in_body : (ss : List Statement) (i : ℕ) (s : Statement) → i < length ss → statement_weight (stmt_view (get_or ss i s)) < body_weight (seen ss)
statement_in_body [] i s h = omega arith
statement_in_body (x ∷ ss) zero s h = omega arith
statement_in_body (x ∷ ss) (suc i) s h = let r = statement_in_body ss i s (omega arith) in omega arith

-- the keys that are left
pub keys_left : (keys : List (List ℕ)) (i : ℕ) (key : List ℕ) → slice_get keys i ≡ Some key → drop i keys ≡ key ∷ drop (suc i) keys
keys_left [] i key h = cc
keys_left (k ∷ keys) zero key h = cc
keys_left (k ∷ keys) (suc i) key h = keys_left keys i key h

module _ {S : Type 0} (calls : Calls S) (eres : List (List ℕ)) (enter : ℕ → List Hold → Part S Val) where
  -- a text of a row that halts
  pub text_in_row_halts : (es : List Expr) (i : ℕ) (e : Expr) (front : List (List ℕ)) (out : List ℕ) (m : Moment S) (x : Halt) (s : S) (st : RecordState) (t : List ℕ) → i < length es → e ≡ get_or es i e → as_text out (eval calls eres enter (view e)) m ≡ halts x s st t → texts_of calls eres enter (exprs (views (drop i es))) front m ≡ halts x s st t
  text_in_row_halts es i e front out m x s st t lt is h =
      ap (λ xs. texts_of calls eres enter (exprs (views xs)) front m) (drop-cons es i e lt ∙ ap (λ y. y ∷ drop (suc i) es) (sym is))
      ∙ ap (λ o. then_do o (λ s. texts_of calls eres enter (exprs (views (drop (suc i) es))) (front ++ s ∷ []))) (text_halts (eval calls eres enter (view e)) out [] m x s st t h)

  -- a value of a row that halts
  pub value_in_row_halts : (es : List Expr) (i : ℕ) (e : Expr) (front : List Val) (m : Moment S) (x : Halt) (s : S) (st : RecordState) (t : List ℕ) → i < length es → e ≡ get_or es i e → eval calls eres enter (view e) m ≡ halts x s st t → values_of calls eres enter (exprs (views (drop i es))) front m ≡ halts x s st t
  value_in_row_halts es i e front m x s st t lt is h =
      ap (λ xs. values_of calls eres enter (exprs (views xs)) front m) (drop-cons es i e lt ∙ ap (λ y. y ∷ drop (suc i) es) (sym is))
      ∙ ap (λ o. then_do o (λ v. values_of calls eres enter (exprs (views (drop (suc i) es))) (front ++ v ∷ []))) h

  -- an argument whose value halts
  pub value_argument_halts : (a : Argument) (e : Expr) (m : Moment S) (x : Halt) (s : S) (st : RecordState) (t : List ℕ) → a ≡ code_argument.Value e → eval calls eres enter (view e) m ≡ halts x s st t → argument_of calls eres enter (argument_view a) m ≡ halts x s st t
  value_argument_halts a e m x s st t is h =
      ap (λ b. argument_of calls eres enter (argument_view b) m) is ∙ ap (λ o. then_do o (λ v. give (value v))) h

  -- an argument that halts
  pub argument_in_row_halts : (as' : List Argument) (i : ℕ) (a : Argument) (front : List Hold) (m : Moment S) (x : Halt) (s : S) (st : RecordState) (t : List ℕ) → i < length as' → a ≡ get_or as' i a → argument_of calls eres enter (argument_view a) m ≡ halts x s st t → arguments_of calls eres enter (arguments (argument_views (drop i as'))) front m ≡ halts x s st t
  argument_in_row_halts as' i a front m x s st t lt is h =
      ap (λ xs. arguments_of calls eres enter (arguments (argument_views xs)) front m) (drop-cons as' i a lt ∙ ap (λ y. y ∷ drop (suc i) as') (sym is))
      ∙ ap (λ o. then_do o (λ v. arguments_of calls eres enter (arguments (argument_views (drop (suc i) as'))) (front ++ v ∷ []))) h
