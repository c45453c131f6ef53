-- Steps about refusals and slices.
use Rattle.std.proofs.Common.{◌≡◌, ℕ, Bool, true, false, List, [], ◌∷◌, length, eqb, eq-eqb, eqb-true, true≢false, refl, sym, ap, ◌∙◌, arith}
use Rattle.pawk_ere_syntax.specs.declared.refusal.EreRefusal.{EreRefusal}
use Rattle.pawk_ere_syntax.specs.declared.refusal.EreRefusal.TheVariants.{Form, Bound, Bracket, Escape, Group, TooLarge, Memory}
use Rattle.pawk_ere_syntax.specs.Refusals.{Tells, TellsOfForm, IfTooLarge}

pub tells_map : (why : EreRefusal) (P Q : Type 0) → (P → Q) → Tells why P → Tells why Q
tells_map Memory P Q f t = tt
tells_map Form P Q f t = f t
tells_map Bound P Q f t = f t
tells_map Bracket P Q f t = f t
tells_map Escape P Q f t = f t
tells_map Group P Q f t = f t
tells_map TooLarge P Q f t = f t

-- what a refusal says of the form, it says
pub form_map : (why : EreRefusal) (P Q : Type 0) → (P → Q) → TellsOfForm why P → TellsOfForm why Q
form_map Memory P Q f t = tt
form_map Form P Q f t = f t
form_map Bound P Q f t = f t
form_map Bracket P Q f t = f t
form_map Escape P Q f t = f t
form_map Group P Q f t = f t
form_map TooLarge P Q f t = t

pub tells_form : (why : EreRefusal) (P Q : Type 0) → (P → Q) → TellsOfForm why P → Tells why Q
tells_form Memory P Q f t = tt
tells_form Form P Q f t = f t
tells_form Bound P Q f t = f t
tells_form Bracket P Q f t = f t
tells_form Escape P Q f t = f t
tells_form Group P Q f t = f t
tells_form TooLarge P Q f t = absurd t

-- what says something of the form says nothing of the size
pub form_only : (why : EreRefusal) (P Q R : Type 0) → (P → R) → TellsOfForm why P → IfTooLarge why Q
form_only Memory P Q R f t = tt
form_only Form P Q R f t = tt
form_only Bound P Q R f t = tt
form_only Bracket P Q R f t = tt
form_only Escape P Q R f t = tt
form_only Group P Q R f t = tt
form_only TooLarge P Q R f t = absurd t

pub not_empty : (bytes : List ℕ) (b : Bool) → b ≡ eqb (length bytes) 0 → b ≡ false → bytes ≡ [] → ⊥
not_empty bytes b h f e = let x : eqb (length bytes) 0 ≡ true = eq-eqb (length bytes) 0 (ap length e) in true≢false (sym x ∙ sym h ∙ f)

pub is_empty_of : (bytes : List ℕ) (b : Bool) → b ≡ eqb (length bytes) 0 → b ≡ true → bytes ≡ []
is_empty_of [] b h t = refl
is_empty_of (x ∷ xs) b h t = absurd (let e : length (x ∷ xs) ≡ 0 = eqb-true (length (x ∷ xs)) 0 (sym h ∙ t) in omega arith)

pub no_length : (bytes : List ℕ) → (length bytes ≡ 0 → ⊥) → bytes ≡ [] → ⊥
no_length bytes h e = h (ap length e)
