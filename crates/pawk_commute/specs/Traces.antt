-- Globals that keep a trace: which amounts were added to which cells, which values were put, which keys were created.
use Rattle.std.specs.Prelude.{ℕ, ℤ, List, [], ◌∷◌, ◌++◌, Bool, false, if◌then◌else◌, nat_eq, ◌&&◌, Option, Some, None, Result, Ok, Err}
use Rattle.std.specs.Str.{bytes_eq}
use Rattle.pawk_value.specs.declared.faults.Fault.{Fault}
use Rattle.pawk_value.specs.Value.{Val}
use Rattle.pawk_array.specs.Entries.{found}
use Rattle.pawk_code.specs.declared.word.Sign.{Sign}
use Rattle.pawk_world.specs.Worlds.{Cell, scalar, element, Request, Answer, gives, halts, Calls}
use Rattle.pawk_world.specs.Worlds as request
use Rattle.pawk_store.specs.Globals.{Globals, array_at}
use Rattle.pawk_frozen.specs.Marks.{Mark, with_amount, last_put}
use Rattle.pawk_frozen.specs.Marks as marks
use Rattle.pawk_frozen.specs.Frozens.{signed_amount}

pub data Event : Type 0 where
  -- an amount was added to a cell; one that was taken away is negated
  added : Cell → ℤ → Event
  -- a value was put into a cell
  put : Cell → Val → Event
  -- an element was created by a reference that is no target
  created : ℕ → List ℕ → Event

pub record Traced : Type 0 where
  pub globals : Globals
  pub trace : List Event

abbrev pub creations : ℕ → List ℕ → Option Val → List Event
creations n key None = created n key ∷ []
creations n key (Some v) = []

abbrev pub additions : Sign → Cell → Result ℤ Fault → List Event
additions sign c (Ok y) = added c (signed_amount sign y) ∷ []
additions sign c (Err f) = []

-- what is reported of a request that is answered
abbrev pub events_of : Request → Globals → List Event
events_of (request.read n key) g = creations n key (found key (array_at g n))
events_of (request.old n key) g = []
events_of (request.write c v) g = put c v ∷ []
events_of (request.add sign c amount) g = additions sign c amount
events_of (request.test n key) g = []
events_of (request.remove n key) g = []
events_of (request.clear n) g = []
events_of (request.keys n) g = []

-- an answer with a trace; a halt reports no more
abbrev pub traced_answer : {X : Type 0} → List Event → List Event → Answer Globals X → Answer Traced X
traced_answer trace more (gives x g) = gives x (record { globals = g; trace = trace ++ more })
traced_answer trace more (halts h g) = halts h (record { globals = g; trace = trace })

-- a world of globals with a trace, and the same answers
abbrev pub traced : Calls Globals → Calls Traced
traced calls = record {
  look = λ n s. calls.look n s.globals;
  ask = λ q s. traced_answer s.trace (events_of q s.globals) (calls.ask q s.globals);
}

abbrev pub same_cell : Cell → Cell → Bool
same_cell (scalar n) (scalar m) = nat_eq n m
same_cell (element n key) (element m other) = nat_eq n m && bytes_eq key other
same_cell (scalar n) (element m other) = false
same_cell (element n key) (scalar m) = false

-- the mark of a cell after one event more
abbrev pub mark_after : Cell → Event → Mark → Mark
mark_after c (added other y) mark = if same_cell c other then with_amount y mark else mark
mark_after c (put other v) mark = if same_cell c other then last_put v else mark
mark_after c (created n key) mark = if same_cell c (element n key) then marks.created else mark

-- what a trace makes of the mark of a cell
abbrev pub mark_from : Mark → Cell → List Event → Mark
mark_from mark c [] = mark
mark_from mark c (e ∷ es) = mark_from (mark_after c e mark) c es
