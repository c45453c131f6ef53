-- Texts that are put after another.
use Rattle.std.proofs.Common.{◌≡◌, ◌≤◌, ℕ, suc, ◌+◌, ◌<◌, List, [], ◌∷◌, ◌++◌, if◌then◌else◌, Ok, Err, add-one, drop, drop-cons, get_or, length, ap, sym, refl, ◌∙◌, arith, le-leb}
use Rattle.std.proofs.lemmas.List.{length-append}
use Rattle.pawk_value.specs.declared.faults.Fault.TheVariants as fault
use Rattle.pawk_value.specs.Limits.{length_limit}
use Rattle.pawk_value.specs.Value.{Val}
use Rattle.pawk_value.specs.Conversion.{text_of}
use Rattle.pawk_world.specs.Worlds.{Calls}
use Rattle.pawk_code.specs.declared.expression.Expr.{Expr}
use Rattle.pawk_code.specs.Expressions.{exprs}
use Rattle.pawk_code.specs.ExpressionViews.{view, views}
use Rattle.pawk_store.specs.Builtins.{within_limit}
use Rattle.pawk_store.specs.Parts.{Hold, Moment, Outcome, Part, gives, halts, give, then_do, bind, settle, as_text}
use Rattle.pawk_store.specs.Meaning.{eval, suffixed}

abbrev with_front : {S : Type 0} → List ℕ → Outcome S (List ℕ) → Outcome S (List ℕ)
with_front front (gives x m) = gives (front ++ x) m
with_front front (halts h s state out) = halts h s state out

text_after : {S : Type 0} (o : Outcome S Val) (front : List ℕ) → then_do o (λ v. give (front ++ text_of v)) ≡ with_front front (then_do o (λ v. give ([] ++ text_of v)))
text_after (gives v m) front = refl
text_after (halts h s state out) front = refl

-- a text that is found without an effect, after another
as_text_after : {S : Type 0} (part : Part S Val) (front t : List ℕ) (m : Moment S) → as_text [] part m ≡ gives t m → as_text front part m ≡ gives (front ++ t) m
as_text_after part front t m is = text_after (part m) front ∙ ap (with_front front) is

within : (s : List ℕ) → length s ≤ length_limit → within_limit s ≡ Ok s
within s h = ap (λ b. if b then Ok s else Err fault.Length) (le-leb (length s) length_limit h)

-- one expression more
pub suffixed_next : {S : Type 0} (calls : Calls S) (eres : List (List ℕ)) (enter : ℕ → List Hold → Part S Val) (es : List Expr) (i : ℕ) (e : Expr) (front t : List ℕ) (m : Moment S) → i < length es → e ≡ get_or es i e → as_text [] (eval calls eres enter (view e)) m ≡ gives t m → length front + length t ≤ length_limit → suffixed calls eres enter (exprs (views (drop i es))) front m ≡ suffixed calls eres enter (exprs (views (drop (i + 1) es))) (front ++ t) m
suffixed_next calls eres enter es i e front t m lt is says short =
    let rest = suffixed calls eres enter (exprs (views (drop (suc i) es))) in
    let fit : length (front ++ t) ≤ length_limit = omega (arith, short, length-append front t) in
    rw add-one
    (ap (λ xs. suffixed calls eres enter (exprs (views xs)) front m) (drop-cons es i e lt ∙ ap (λ x. x ∷ drop (suc i) es) (sym is))
    ∙ ap (λ o. then_do o (λ s. bind (settle (within_limit s)) rest)) (as_text_after (eval calls eres enter (view e)) front t m says)
    ∙ ap (λ r. then_do (settle r m) rest) (within (front ++ t) fit))
