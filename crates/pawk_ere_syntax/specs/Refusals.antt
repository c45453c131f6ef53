-- What a refusal says.
use Rattle.std.specs.Prelude.{◌≡◌, ℕ, Option, Some, None, Result, Ok, Err}
use Rattle.pawk_ere_syntax.specs.declared.refusal.EreRefusal.{EreRefusal}
use Rattle.pawk_ere_syntax.specs.declared.refusal.EreRefusal.TheVariants.{Form, Bound, Bracket, Escape, Group, TooLarge, Memory}

abbrev pub number_of : EreRefusal → ℕ
number_of Form = 1
number_of Bound = 2
number_of Bracket = 3
number_of Escape = 4
number_of Group = 5
number_of TooLarge = 6
number_of Memory = 7

-- a refusal other than for memory comes only where P holds
abbrev pub Tells : EreRefusal → Type 0 → Type 0
Tells Memory P = Unit {0}
Tells Form P = P
Tells Bound P = P
Tells Bracket P = P
Tells Escape P = P
Tells Group P = P
Tells TooLarge P = P

-- a refusal other than for memory comes only where P holds, and it is not that the expression is too large
abbrev pub TellsOfForm : EreRefusal → Type 0 → Type 0
TellsOfForm Memory P = Unit {0}
TellsOfForm Form P = P
TellsOfForm Bound P = P
TellsOfForm Bracket P = P
TellsOfForm Escape P = P
TellsOfForm Group P = P
TellsOfForm TooLarge P = ⊥

-- what is returned, seen by view, is what is asked for, and a refusal other than for memory comes where there is none
abbrev pub Gives : {X Y : Type 0} → (X → Y) → Result X EreRefusal → Option Y → Type 0
Gives view (Ok x) o = o ≡ Some (view x)
Gives view (Err e) o = TellsOfForm e (o ≡ None)

-- a refusal for the size comes only where P holds
abbrev pub IfTooLarge : EreRefusal → Type 0 → Type 0
IfTooLarge TooLarge P = P
IfTooLarge Memory P = Unit {0}
IfTooLarge Form P = Unit {0}
IfTooLarge Bound P = Unit {0}
IfTooLarge Bracket P = Unit {0}
IfTooLarge Escape P = Unit {0}
IfTooLarge Group P = Unit {0}
