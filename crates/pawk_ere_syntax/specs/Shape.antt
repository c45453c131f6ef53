-- What the first look at a text keeps of what was read: how many groups are open, and what the branch ends with.
use Rattle.std.specs.Prelude.{◌+◌, ◌-◌, ◌==◌, Option, Some, None, length, if◌then◌else◌}
use Rattle.pawk_ere_syntax.specs.declared.token.EreToken.{EreToken}
use Rattle.pawk_ere_syntax.specs.declared.token.EreToken.TheVariants.{Leaf, Times, Bar, Open, Close, Caret, Dollar}
use Rattle.pawk_ere_syntax.specs.declared.shape.Last.{Last}
use Rattle.pawk_ere_syntax.specs.declared.shape.Last.TheVariants.{Nothing, Fixed, Repeatable}
use Rattle.pawk_ere_syntax.specs.declared.shape.Shape.{Shape}
use Rattle.pawk_ere_syntax.specs.Pattern.{Pattern, Bytes, Group}
use Rattle.pawk_ere_syntax.specs.Machine.{Builder}

abbrev pub last_of : Option Pattern → Last
last_of None = Nothing
last_of (Some (Bytes members)) = Repeatable
last_of (Some (Group a)) = Repeatable
last_of (Some e) = Fixed

abbrev pub shape_of : Builder → Shape
shape_of st = record { open_groups = length st.outer; last = last_of st.here.piece }

abbrev pub if_something : Last → Shape → Option Shape
if_something Nothing s = None
if_something Fixed s = Some s
if_something Repeatable s = Some s

abbrev pub if_repeatable : Last → Shape → Option Shape
if_repeatable Nothing s = None
if_repeatable Fixed s = None
if_repeatable Repeatable s = Some s

-- the shape after a token, where the token is allowed
abbrev pub shape_after : EreToken → Shape → Option Shape
shape_after (Leaf set) s = Some (record { open_groups = s.open_groups; last = Repeatable })
shape_after Caret s = Some (record { open_groups = s.open_groups; last = Fixed })
shape_after Dollar s = Some (record { open_groups = s.open_groups; last = Fixed })
shape_after (Times least most) s = if_repeatable s.last (record { open_groups = s.open_groups; last = Fixed })
shape_after Bar s = if_something s.last (record { open_groups = s.open_groups; last = Nothing })
shape_after Open s = Some (record { open_groups = s.open_groups + 1; last = Nothing })
shape_after Close s = if s.open_groups == 0 then None else if_something s.last (record { open_groups = s.open_groups - 1; last = Repeatable })
