-- A run that keeps a trace is the run that keeps none, whatever was in the trace before.
use Rattle.std.specs.Prelude.{◌≡◌, ℕ, List, [], ◌++◌, Option}
use Rattle.pawk_code.specs.Programs.{Code}
use Rattle.pawk_input.specs.Input.{Item}
use Rattle.pawk_store.specs.Globals.{Globals, calls}
use Rattle.pawk_store.specs.Records.{End}
use Rattle.pawk_store.specs.Runs.{records_from}
use Rattle.pawk_store.specs.Lockstep.{Pair}
use Rattle.pawk_commute.specs.Traces.{Event, Traced, traced}

-- an end without its trace
abbrev pub plain : End Traced → End Globals
plain e = record { world = e.world.globals; state = e.state; output = e.output; left = e.left }

-- the same globals; whatever a program asks, the two do not part
abbrev pub traced_pair : Unit {0} → Pair Traced Globals
traced_pair u = record {
  first_calls = traced calls;
  second_calls = calls;
  alike = λ s g. s.globals ≡ g;
  before = λ s t. Unit {0};
  before_second = λ g h. Unit {0};
  permits = λ access resource. Unit {0};
  parts = λ q s g. ⊥;
  ahead = [];
}

-- records of any program
abbrev pub TracedLaw : Type 0
TracedLaw =
    (eres : List (List ℕ)) (code : Code) (budget : ℕ) (skip : Option ℕ) (items : List Item) (e : End Traced) →
    plain (records_from (traced calls) eres code budget skip e items)
    ≡ records_from calls eres code budget skip (plain e) items

-- an end with these events in front of its trace
abbrev pub with_trace_before : List Event → End Traced → End Traced
with_trace_before before e =
    record e { world = record { globals = e.world.globals; trace = before ++ e.world.trace } }

-- the same globals, of which the first have more in front of their trace; the two do not part
abbrev pub longer_pair : List Event → Pair Traced Traced
longer_pair before = record {
  first_calls = traced calls;
  second_calls = traced calls;
  alike = λ s t. (s.globals ≡ t.globals) × (s.trace ≡ before ++ t.trace);
  before = λ s t. Unit {0};
  before_second = λ s t. Unit {0};
  permits = λ access resource. Unit {0};
  parts = λ q s t. ⊥;
  ahead = [];
}

-- records of any program
abbrev pub TraceIsAppendedLaw : Type 0
TraceIsAppendedLaw =
    (eres : List (List ℕ)) (code : Code) (budget : ℕ) (skip : Option ℕ) (items : List Item)
    (before : List Event) (e : End Traced) →
    records_from (traced calls) eres code budget skip (with_trace_before before e) items
    ≡ with_trace_before before (records_from (traced calls) eres code budget skip e items)
