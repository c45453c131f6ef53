-- A text that is appended to what is before it.
use Rattle.std.proofs.Common.{◌≡◌, ℕ, suc, ◌<◌, ◌≤◌, List, ◌∷◌, ◌++◌, drop, take, drop-cons, get_or, length, arith, ap, sym, ◌∙◌, length-append}
use Rattle.std.proofs.lemmas.List.{take-append-le, drop-append-le}
use Rattle.pawk_value.specs.Value.{Val}
use Rattle.pawk_value.specs.Conversion.{text_of}
use Rattle.pawk_world.specs.Worlds.{Calls}
use Rattle.pawk_world.specs.Halts.{Halt}
use Rattle.pawk_store.specs.RecordStates.{RecordState}
use Rattle.pawk_code.specs.declared.expression.Expr.{Expr}
use Rattle.pawk_code.specs.Expressions.{exprs}
use Rattle.pawk_code.specs.ExpressionViews.{view, views}
use Rattle.pawk_store.specs.Builtins.{within_limit}
use Rattle.pawk_store.specs.Parts.{Hold, Moment, Outcome, gives, halts, Part, give, settle, then_do, bind, as_text}
use Rattle.pawk_store.specs.Meaning.{eval, suffixed}

module _ {S : Type 0} where
  -- a text that is appended is appended to each end of what is before it
  text_after_at : (start : ℕ) (out new : List ℕ) (o : Outcome S Val) (m' : Moment S) → start ≤ length out → then_do o (λ v. give (out ++ text_of v)) ≡ gives new m' → (then_do o (λ v. give (drop start out ++ text_of v)) ≡ gives (drop start new) m') × (take start new ≡ take start out) × (start ≤ length new)
  text_after_at start out new (gives v m) m' le h =
      let same : out ++ text_of v ≡ new = cc in
      let later : m ≡ m' = cc in
      let back : drop start new ≡ drop start out ++ text_of v = rw (← same) (drop-append-le start out (text_of v) le) in
      let front : take start new ≡ take start out = rw (← same) (take-append-le start out (text_of v) le) in
      let long = ap length same in
      (rw (back, later), front, omega (arith, length-append out (text_of v)))
  text_after_at start out new (halts x s st o) m' le h = absurd (cc)

  pub text_after : (part : Part S Val) (start : ℕ) (out new : List ℕ) (m m' : Moment S) → start ≤ length out → as_text out part m ≡ gives new m' → (as_text (drop start out) part m ≡ gives (drop start new) m') × (take start new ≡ take start out) × (start ≤ length new)
  text_after part start out new m m' le h = text_after_at start out new (part m) m' le h

  text_halts_at : (out other : List ℕ) (o : Outcome S Val) (x : Halt) (s : S) (st : RecordState) (t : List ℕ) → then_do o (λ v. give (out ++ text_of v)) ≡ halts x s st t → then_do o (λ v. give (other ++ text_of v)) ≡ halts x s st t
  text_halts_at out other (gives v m) x s st t h = absurd (cc)
  text_halts_at out other (halts y s' st' t') x s st t h = h

  pub text_halts : (part : Part S Val) (out other : List ℕ) (m : Moment S) (x : Halt) (s : S) (st : RecordState) (t : List ℕ) → as_text out part m ≡ halts x s st t → as_text other part m ≡ halts x s st t
  text_halts part out other m x s st t h = text_halts_at out other (part m) x s st t h

module _ {S : Type 0} (calls : Calls S) (eres : List (List ℕ)) (enter : ℕ → List Hold → Part S Val) where
  operands_left : (es : List Expr) (i : ℕ) (e : Expr) (front : List ℕ) (m : Moment S) → i < length es → e ≡ get_or es i e → suffixed calls eres enter (exprs (views (drop i es))) front m ≡ then_do (as_text front (eval calls eres enter (view e)) m) (λ s. bind (settle (within_limit s)) (suffixed calls eres enter (exprs (views (drop (suc i) es)))))
  operands_left es i e front m lt is = ap (λ xs. suffixed calls eres enter (exprs (views xs)) front m) (drop-cons es i e lt ∙ ap (λ x. x ∷ drop (suc i) es) (sym is))

  -- one operand more of a concatenation
  pub operand_next : (es : List Expr) (i : ℕ) (e : Expr) (start : ℕ) (out new : List ℕ) (m m' : Moment S) → i < length es → e ≡ get_or es i e → start ≤ length out → as_text out (eval calls eres enter (view e)) m ≡ gives new m' → suffixed calls eres enter (exprs (views (drop i es))) (drop start out) m ≡ then_do (settle (within_limit (drop start new)) m') (suffixed calls eres enter (exprs (views (drop (suc i) es))))
  operand_next es i e start out new m m' lt is le h =
      operands_left es i e (drop start out) m lt is ∙ ap (λ o. then_do o (λ s. bind (settle (within_limit s)) (suffixed calls eres enter (exprs (views (drop (suc i) es)))))) (text_after (eval calls eres enter (view e)) start out new m m' le h).0

  -- an operand that halts
  pub operand_halts : (es : List Expr) (i : ℕ) (e : Expr) (start : ℕ) (out : List ℕ) (m : Moment S) (x : Halt) (s : S) (st : RecordState) (t : List ℕ) → i < length es → e ≡ get_or es i e → as_text out (eval calls eres enter (view e)) m ≡ halts x s st t → suffixed calls eres enter (exprs (views (drop i es))) (drop start out) m ≡ halts x s st t
  operand_halts es i e start out m x s st t lt is h =
      operands_left es i e (drop start out) m lt is ∙ ap (λ o. then_do o (λ s. bind (settle (within_limit s)) (suffixed calls eres enter (exprs (views (drop (suc i) es)))))) (text_halts (eval calls eres enter (view e)) out (drop start out) m x s st t h)
