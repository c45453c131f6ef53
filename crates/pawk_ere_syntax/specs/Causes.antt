-- Which refusal a text gets: that of the first cause in reading order.
use Rattle.std.specs.Prelude.{◌≡◌, ◌⊎◌, ℕ, zero, suc, ◌==◌, ◌&&◌, Bool, true, false, not, Option, Some, None, List, [], ◌∷◌, length, drop, if◌then◌else◌}
use Rattle.pawk_ere_syntax.specs.declared.bracket.BracketItem.{BracketItem}
use Rattle.pawk_ere_syntax.specs.declared.refusal.EreRefusal.{EreRefusal}
use Rattle.pawk_ere_syntax.specs.declared.refusal.EreRefusal.TheVariants.{Form, Bound, Bracket, Escape, Group, TooLarge, Memory}
use Rattle.pawk_ere_syntax.specs.declared.shape.Last.{Last}
use Rattle.pawk_ere_syntax.specs.declared.shape.Last.TheVariants.{Nothing, Fixed, Repeatable}
use Rattle.pawk_ere_syntax.specs.declared.shape.Shape.{Shape}
use Rattle.pawk_ere_syntax.specs.declared.token.EreToken.{EreToken}
use Rattle.pawk_ere_syntax.specs.declared.token.EreToken.TheVariants.{Leaf, Times, Bar, Open, Close, Caret, Dollar}
use Rattle.pawk_ere_syntax.specs.Bounds.{number_at}
use Rattle.pawk_ere_syntax.specs.Brackets.{begins, goes_on, item_at, point_at}
use Rattle.pawk_ere_syntax.specs.Shape.{shape_after}
use Rattle.pawk_ere_syntax.specs.Tokens.{IsTooLarge, token_at}

-- nothing is read, and this is the cause
abbrev pub Stops : {X : Type 0} → Option X → EreRefusal → EreRefusal → Type 0
Stops o cause why = (o ≡ None) × (why ≡ cause)

-- after a `{` that begins no bound: its numbers, where it has the form m}, m,} or m,n}, else its form
abbrev pub most_cause : Option (ℕ × List ℕ) → EreRefusal
most_cause None = Form
most_cause (Some (most, [])) = Form
most_cause (Some (most, c ∷ rest)) = if c == 125 then Bound else Form

abbrev pub comma_cause : List ℕ → EreRefusal
comma_cause [] = Form
comma_cause (c ∷ rest) = if c == 125 then Bound else most_cause (number_at (c ∷ rest))

abbrev pub bound_cause : Option (ℕ × List ℕ) → EreRefusal
bound_cause None = Form
bound_cause (Some (least, [])) = Form
bound_cause (Some (least, c ∷ rest)) = if c == 125 then Bound else if c == 44 then comma_cause rest else Form

-- in a bracket expression where no point is: a backslash that begins no escape, or another fault
unfoldable pub point_cause : List ℕ → EreRefusal
point_cause [] = Bracket
point_cause (c ∷ rest) = if c == 92 then Escape else Bracket

abbrev pub range_cause : Option (ℕ × List ℕ) → EreRefusal → EreRefusal
range_cause None why = why
range_cause (Some x) why = Bracket

abbrev pub from_cause : Option (ℕ × List ℕ) → EreRefusal → EreRefusal
from_cause None why = why
from_cause (Some x) why = if goes_on x.1 then range_cause (point_at (drop 1 x.1)) (point_cause (drop 1 x.1)) else Bracket

-- where no item is
unfoldable pub item_cause : Bool → List ℕ → EreRefusal
item_cause first [] = Bracket
item_cause first (c ∷ rest) =
    if (c == 91) && begins 58 rest then Bracket
    else if (c == 45) && not first then Bracket
    else from_cause (point_at (c ∷ rest)) (point_cause (c ∷ rest))

abbrev pub later_cause : (List ℕ → EreRefusal) → EreRefusal → Option (BracketItem × List ℕ) → EreRefusal
later_cause go why None = why
later_cause go why (Some x) = go x.1

-- the first item that is none, or that the `]` is missing
unfoldable pub items_cause : ℕ → Bool → List ℕ → EreRefusal
items_cause zero first bytes = Bracket
items_cause (suc n) first bytes = later_cause (λ rest. items_cause n false rest) (item_cause first bytes) (item_at first bytes)

-- after a `[` that begins no bracket expression
unfoldable pub bracket_cause : List ℕ → EreRefusal
bracket_cause bytes =
    if begins 94 bytes then items_cause (length bytes) true (drop 1 bytes) else items_cause (length bytes) true bytes

-- where no token is
unfoldable pub token_cause : List ℕ → EreRefusal
token_cause [] = Form
token_cause (c ∷ rest) = if c == 92 then Escape else if c == 123 then bound_cause (number_at rest) else bracket_cause rest

abbrev pub form_for_bound : EreRefusal → EreRefusal
form_for_bound Form = Form
form_for_bound Bound = Form
form_for_bound Bracket = Bracket
form_for_bound Escape = Escape
form_for_bound Group = Group
form_for_bound TooLarge = TooLarge
form_for_bound Memory = Memory

-- a `{` where nothing is that may be repeated has no form, whatever its numbers
abbrev pub place_cause : Last → EreRefusal → EreRefusal
place_cause Nothing why = form_for_bound why
place_cause Fixed why = form_for_bound why
place_cause Repeatable why = why

-- where a token is not allowed
abbrev pub step_cause : EreToken → Shape → EreRefusal
step_cause (Leaf set) s = Form
step_cause (Times least most) s = Form
step_cause Bar s = Form
step_cause Open s = Form
step_cause Close s = if s.open_groups == 0 then Group else Form
step_cause Caret s = Form
step_cause Dollar s = Form

abbrev pub if_nothing : Last → Option EreRefusal
if_nothing Nothing = Some Form
if_nothing Fixed = None
if_nothing Repeatable = None

-- where the end is not allowed
abbrev pub end_cause : Shape → Option EreRefusal
end_cause s = if s.open_groups == 0 then if_nothing s.last else Some Group

-- the tokens are those with which the text begins, each allowed after those before it, and what follows them
abbrev pub Reads : List ℕ → Shape → List EreToken → List ℕ → Shape → Type 0
Reads bytes s [] rest t = (bytes ≡ rest) × (s ≡ t)
Reads bytes s (x ∷ xs) rest t =
    (more : List ℕ) × (next : Shape) × (token_at bytes ≡ Some (x, more)) × (shape_after x s ≡ Some next) × Reads more next xs rest t

-- no token is there, or one that is not allowed, or an end that is not allowed
abbrev pub StopsAt : Shape → List ℕ → EreRefusal → Type 0
StopsAt s rest why =
    ((rest ≡ [] → ⊥) × (token_at rest ≡ None) × (why ≡ place_cause s.last (token_cause rest)))
    ⊎ (((x : EreToken) × (more : List ℕ) × (token_at rest ≡ Some (x, more)) × (shape_after x s ≡ None) × (why ≡ step_cause x s))
    ⊎ ((rest ≡ []) × (end_cause s ≡ Some why)))

-- no group is open, and nothing was read
abbrev pub opening : Shape
opening = record { open_groups = 0; last = Nothing }

-- the tokens of the text go well up to a place, and not there, for this cause
pub record IsFirstCause (bytes : List ℕ) (why : EreRefusal) : Type 0 where
  pub tokens : List EreToken
  pub rest : List ℕ
  pub shape : Shape
  pub reads : Reads bytes opening tokens rest shape
  pub stops : StopsAt shape rest why

-- the text is refused so: for memory, for its size, or for the first cause in reading order
abbrev pub IsRefusalOf : List ℕ → EreRefusal → Type 0
IsRefusalOf bytes Form = IsFirstCause bytes Form
IsRefusalOf bytes Bound = IsFirstCause bytes Bound
IsRefusalOf bytes Bracket = IsFirstCause bytes Bracket
IsRefusalOf bytes Escape = IsFirstCause bytes Escape
IsRefusalOf bytes Group = IsFirstCause bytes Group
IsRefusalOf bytes TooLarge = IsTooLarge bytes
IsRefusalOf bytes Memory = Unit {0}
