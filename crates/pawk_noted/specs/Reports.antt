-- What calls of a world report, as events.
use Rattle.std.specs.Prelude.{ℕ, ◌+◌, List, [], ◌∷◌, ◌++◌, Result, Ok, Err}
use Rattle.std.specs.Fmt.{decimal}
use Rattle.pawk_value.specs.Value.{Text, Maybe, lent_value}
use Rattle.pawk_value.specs.Conversion.{text_of}
use Rattle.pawk_array.specs.Texts.{texts_in}
use Rattle.pawk_world.specs.declared.halt.Halt.{Halt}
use Rattle.pawk_world.specs.Worlds.{Cell, scalar, element}
use Rattle.pawk_store.specs.Globals.{value_at}
use Rattle.pawk_commute.specs.Traces.{Event, put, created, additions}
use Rattle.pawk_noted.specs.declared.trail.CellRef.{CellRef}
use Rattle.pawk_noted.specs.declared.trail.CellRef.TheVariants as cell
use Rattle.pawk_noted.specs.declared.trail.Report.{Report}
use Rattle.pawk_noted.specs.declared.trail.Report.TheVariants as report

abbrev pub cell_of : CellRef → Cell
cell_of (cell.Scalar slot) = scalar slot
cell_of (cell.Element array key) = element array key.now

-- pieces are put at the keys of the numbers after this one
abbrev pub puts : ℕ → ℕ → List (List ℕ) → List Event
puts array n [] = []
puts array n (piece ∷ rest) = put (element array (decimal (n + 1))) (Maybe piece) ∷ puts array (n + 1) rest

-- only a call that gave an answer did something
abbrev pub if_done : {X : Type 0} → Result X Halt → List Event → List Event
if_done (Ok x) events = events
if_done (Err e) events = []

abbrev pub reported : Report → List Event
reported (report.Put c v) = put (cell_of c) (lent_value v) ∷ []
reported (report.Append slot globals more) = put (scalar slot) (Text (text_of (value_at (scalar slot) globals.now) ++ more.now)) ∷ []
reported (report.Fill array text pieces) = puts array 0 (texts_in text.now pieces.now)
reported (report.Add c sign amount done) = if_done done (additions sign (cell_of c) amount)
reported (report.Create array key) = created array key.now ∷ []

-- it creates no element by a reference
abbrev pub IsChange : Report → Type 0
IsChange (report.Create array key) = ⊥
IsChange _ = Unit {0}
