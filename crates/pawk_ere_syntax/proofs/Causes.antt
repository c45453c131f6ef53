-- The first cause, item by item and token by token.
use Rattle.std.proofs.Common.{◌≡◌, ℕ, zero, suc, ◌<◌, ◌≤◌, ◌&&◌, Bool, true, false, not, cond, eqb, eqb-true, eq-eqb, Option, Some, None, List, [], ◌∷◌, ◌++◌, Result, Ok, Err, IfErr, length, refl, sym, ap, ◌∙◌, inl, inr, arith}
use Rattle.pawk_ere_syntax.specs.declared.bracket.BracketItem.{BracketItem}
use Rattle.pawk_ere_syntax.specs.declared.expression.Expression.{Expression}
use Rattle.pawk_ere_syntax.specs.declared.refusal.EreRefusal.{EreRefusal}
use Rattle.pawk_ere_syntax.specs.declared.refusal.EreRefusal.TheVariants.{Form, Bound, Bracket, Escape, Group, TooLarge, Memory}
use Rattle.pawk_ere_syntax.specs.declared.shape.Last.TheVariants.{Nothing}
use Rattle.pawk_ere_syntax.specs.declared.shape.Shape.{Shape}
use Rattle.pawk_ere_syntax.specs.declared.token.EreToken.{EreToken}
use Rattle.pawk_ere_syntax.specs.Brackets.{begins, items, item_at}
use Rattle.pawk_ere_syntax.specs.Causes.{IsFirstCause, IsRefusalOf, Reads, Stops, end_cause, if_nothing, item_cause, items_cause, later_cause, opening, place_cause, step_cause, token_cause}
use Rattle.pawk_ere_syntax.specs.Pattern.{Pattern}
use Rattle.pawk_ere_syntax.specs.Refusals.{Gives, TellsOfForm}
use Rattle.pawk_ere_syntax.specs.Shape.{shape_after}
use Rattle.pawk_ere_syntax.specs.Tokens.{token_at}
use Rattle.pawk_ere_syntax.specs.Tree.{pattern_of}
use Rattle.pawk_ere_syntax.proofs.Items.{Same, items_none, same_ended}

-- one item is read
cause_more : (m : ℕ) (first : Bool) (bytes more : List ℕ) (x : BracketItem) → length bytes ≤ m → length more < length bytes → item_at first bytes ≡ Some (x, more)
    → (k : ℕ) × (length more ≤ k) × (items_cause k false more ≡ items_cause m first bytes)
unfolding items_cause
cause_more zero first bytes more x le lt at = absurd (omega arith)
cause_more (suc m) first bytes more x le lt at = (m, omega arith, sym (ap (later_cause (λ rest. items_cause m false rest) (item_cause first bytes)) at))

-- the cause is at the next item
pub cause_here : (m : ℕ) (first : Bool) (bytes : List ℕ) → length bytes ≤ m → item_at first bytes ≡ None → items_cause m first bytes ≡ item_cause first bytes
unfolding items_cause item_cause
cause_here zero first [] le h = refl
cause_here zero first (c ∷ cs) le h = absurd (omega arith)
cause_here (suc m) first bytes le h = ap (later_cause (λ rest. items_cause m false rest) (item_cause first bytes)) h

cause_empty : (m : ℕ) (first : Bool) → items_cause m first [] ≡ Bracket
unfolding items_cause item_cause item_at
cause_empty zero first = refl
cause_empty (suc m) first = refl

-- the cause from here is that from the start
abbrev pub SameCause : List ℕ → List ℕ → Bool → Type 0
SameCause text rest first = (n : ℕ) → length text ≤ n → (m : ℕ) × (length rest ≤ m) × (items_cause m first rest ≡ items_cause n true text)

pub same_cause_start : (text : List ℕ) → SameCause text text true
same_cause_start text = λ n le. (n, le, refl)

pub same_cause_more : (text rest more : List ℕ) (first : Bool) (x : BracketItem) → SameCause text rest first → length more < length rest → item_at first rest ≡ Some (x, more) → SameCause text more false
same_cause_more text rest more first x same lt at = λ n le.
    let s = same n le in
    let y = cause_more s.0 first rest more x s.1 lt at in
    (y.0, y.1, y.2 ∙ s.2)

pub stops_items : (why : EreRefusal) (text rest : List ℕ) (members initial : List Bool) (first : Bool) → Same text rest members first initial → SameCause text rest first → (begins 93 rest && not first) ≡ false → Stops (item_at first rest) (item_cause first rest) why
    → (n : ℕ) → length text ≤ n → Stops (items n initial true text) (items_cause n true text) why
stops_items why text rest members initial first same cause h stops n le =
    let s = same n le in
    let t = cause n le in
    (sym s.2 ∙ items_none s.0 members first rest h stops.0, stops.1 ∙ (sym (cause_here t.0 first rest t.1 stops.0) ∙ t.2))

pub ends_items : (text rest : List ℕ) (members initial : List Bool) (first : Bool) → Same text rest members first initial → SameCause text rest first → rest ≡ [] → (n : ℕ) → length text ≤ n → Stops (items n initial true text) (items_cause n true text) Bracket
ends_items text rest members initial first same cause h n le =
    let t = cause n le in
    (same_ended text rest members initial first same h n le, sym (ap (items_cause t.0 first) h ∙ cause_empty t.0 first) ∙ t.2)

-- the tokens of the text go well up to here
abbrev pub GoesWell : List ℕ → List ℕ → Shape → Type 0
GoesWell bytes rest shape = (tokens : List EreToken) × Reads bytes opening tokens rest shape

pub well_start : (bytes : List ℕ) → GoesWell bytes bytes opening
well_start bytes = ([], (refl, refl))

reads_push : (bytes : List ℕ) (s : Shape) (ts : List EreToken) (rest : List ℕ) (t : Shape) (x : EreToken) (more : List ℕ) (next : Shape) → Reads bytes s ts rest t → token_at rest ≡ Some (x, more) → shape_after x t ≡ Some next → Reads bytes s (ts ++ x ∷ []) more next
reads_push bytes s [] rest t x more next r h k = (more, next, ap token_at r.0 ∙ h, ap (shape_after x) r.1 ∙ k, (refl, refl))
reads_push bytes s (y ∷ ys) rest t x more next r h k = (r.0, r.1, r.2, r.3, reads_push r.0 r.1 ys rest t x more next r.4 h k)

pub well_step : (bytes rest more : List ℕ) (shape next : Shape) (x : EreToken) → GoesWell bytes rest shape → token_at rest ≡ Some (x, more) → shape_after x shape ≡ Some next → GoesWell bytes more next
well_step bytes rest more shape next x w h k = (w.0 ++ x ∷ [], reads_push bytes opening w.0 rest shape x more next w.1 h k)

-- no token is here
pub cause_token : (why : EreRefusal) (bytes rest : List ℕ) (shape : Shape) → GoesWell bytes rest shape → (rest ≡ [] → ⊥) → Stops (token_at rest) (place_cause shape.last (token_cause rest)) why → IsFirstCause bytes why
cause_token why bytes rest shape w more s = record { tokens = w.0; rest = rest; shape = shape; reads = w.1; stops = inl (more, s.0, s.1) }

-- the token is not allowed here
pub cause_step : (why : EreRefusal) (bytes rest more : List ℕ) (shape : Shape) (x : EreToken) → GoesWell bytes rest shape → token_at rest ≡ Some (x, more) → Stops (shape_after x shape) (step_cause x shape) why → IsFirstCause bytes why
cause_step why bytes rest more shape x w h s = record { tokens = w.0; rest = rest; shape = shape; reads = w.1; stops = inr (inl (x, more, h, s.0, s.1)) }

end_open : (s : Shape) → (s.open_groups ≡ 0 → ⊥) → end_cause s ≡ Some Group
end_open s h = go (eqb s.open_groups 0) refl
  where
    go : (b : Bool) → eqb s.open_groups 0 ≡ b → end_cause s ≡ Some Group
    go true e = absurd (h (eqb-true s.open_groups 0 e))
    go false e = ap (λ b. cond b (if_nothing s.last) (Some Group)) e

end_nothing : (s : Shape) → s.open_groups ≡ 0 → s.last ≡ Nothing → end_cause s ≡ Some Form
end_nothing s h k = ap (λ b. cond b (if_nothing s.last) (Some Group)) (eq-eqb s.open_groups 0 h) ∙ ap if_nothing k

-- the text ends where a group is open
pub cause_open : (bytes rest : List ℕ) (shape : Shape) → GoesWell bytes rest shape → rest ≡ [] → (shape.open_groups ≡ 0 → ⊥) → IsFirstCause bytes Group
cause_open bytes rest shape w over h = record { tokens = w.0; rest = rest; shape = shape; reads = w.1; stops = inr (inr (over, end_open shape h)) }

-- the text ends after nothing
pub cause_nothing : (bytes rest : List ℕ) (shape : Shape) → GoesWell bytes rest shape → rest ≡ [] → shape.open_groups ≡ 0 → shape.last ≡ Nothing → IsFirstCause bytes Form
cause_nothing bytes rest shape w over h k = record { tokens = w.0; rest = rest; shape = shape; reads = w.1; stops = inr (inr (over, end_nothing shape h k)) }

-- what is refused for a form that the text has is refused for memory
pub memory_only : (why : EreRefusal) (P : Type 0) (bytes : List ℕ) → (P → ⊥) → TellsOfForm why P → IsRefusalOf bytes why
memory_only Memory P bytes f t = tt
memory_only Form P bytes f t = absurd (f t)
memory_only Bound P bytes f t = absurd (f t)
memory_only Bracket P bytes f t = absurd (f t)
memory_only Escape P bytes f t = absurd (f t)
memory_only Group P bytes f t = absurd (f t)
memory_only TooLarge P bytes f t = absurd t

pub memory_at_end : (r : Result Expression EreRefusal) (o : Option Pattern) (bytes : List ℕ) → (o ≡ None → ⊥) → Gives pattern_of r o → IfErr r (IsRefusalOf bytes)
memory_at_end (Ok e) o bytes f g = tt
memory_at_end (Err why) o bytes f g = memory_only why (o ≡ None) bytes f g

-- the first cause is what the text is refused for, where it is neither its size nor memory
pub refused_so : (why : EreRefusal) (bytes : List ℕ) (P : Type 0) → TellsOfForm why P → IsFirstCause bytes why → IsRefusalOf bytes why
refused_so Memory bytes P t c = tt
refused_so Form bytes P t c = c
refused_so Bound bytes P t c = c
refused_so Bracket bytes P t c = c
refused_so Escape bytes P t c = c
refused_so Group bytes P t c = c
refused_so TooLarge bytes P t c = absurd t
