-- Texts that are pushed with a separator between.
use Rattle.std.proofs.Common.{◌≡◌, ℕ, suc, ◌+◌, ◌<◌, List, [], ◌∷◌, ◌++◌, add-one, drop, drop-cons, get_or, length, ap, sym, ◌∙◌, append_assoc}
use Rattle.std.proofs.lemmas.List.{append-nil}
use Rattle.pawk_value.specs.Value.{Val}
use Rattle.pawk_world.specs.Worlds.{Calls}
use Rattle.pawk_code.specs.declared.expression.Expr.{Expr}
use Rattle.pawk_code.specs.Expressions.{exprs}
use Rattle.pawk_code.specs.ExpressionViews.{view, views}
use Rattle.pawk_store.specs.Builtins.{joined_by, joined_after}
use Rattle.pawk_store.specs.Parts.{Hold, Moment, Part, gives, then_do, as_text}
use Rattle.pawk_store.specs.Meaning.{eval, texts_of}
use Rattle.pawk_runtime.specs.Plain.{between}

after_more : (separator : List ℕ) (ts : List (List ℕ)) (t : List ℕ) → joined_after separator (ts ++ t ∷ []) ≡ joined_after separator ts ++ (separator ++ t)
after_more separator [] t = ap (λ x. separator ++ x) (append-nil t)
after_more separator (y ∷ ts) t =
    ap (λ x. separator ++ (y ++ x)) (after_more separator ts t)
    ∙ ap (λ x. separator ++ x) (sym (append_assoc y (joined_after separator ts) (separator ++ t)))
    ∙ sym (append_assoc separator (y ++ joined_after separator ts) (separator ++ t))

-- one text more
pub joined_more : (separator : List ℕ) (ts : List (List ℕ)) (t : List ℕ) → joined_by separator (ts ++ t ∷ []) ≡ joined_by separator ts ++ (between (length ts) separator ++ t)
joined_more separator [] t = append-nil t
joined_more separator (y ∷ ts) t =
    ap (λ x. y ++ x) (after_more separator ts t) ∙ sym (append_assoc y (joined_after separator ts) (separator ++ t))

-- one expression more
pub texts_next : {S : Type 0} (calls : Calls S) (eres : List (List ℕ)) (enter : ℕ → List Hold → Part S Val) (es : List Expr) (i : ℕ) (e : Expr) (texts : List (List ℕ)) (t : List ℕ) (m : Moment S) → i < length es → e ≡ get_or es i e → as_text [] (eval calls eres enter (view e)) m ≡ gives t m → texts_of calls eres enter (exprs (views (drop i es))) texts m ≡ texts_of calls eres enter (exprs (views (drop (i + 1) es))) (texts ++ t ∷ []) m
texts_next calls eres enter es i e texts t m lt is says =
    rw add-one
    (ap (λ xs. texts_of calls eres enter (exprs (views xs)) texts m) (drop-cons es i e lt ∙ ap (λ x. x ∷ drop (suc i) es) (sym is))
    ∙ ap (λ o. then_do o (λ s. texts_of calls eres enter (exprs (views (drop (suc i) es))) (texts ++ s ∷ []))) says)
