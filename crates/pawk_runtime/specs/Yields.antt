-- What a call that does a part of a run answers.
use Rattle.std.specs.Prelude.{◌≡◌, Some, Result, Ok, Err}
use Rattle.pawk_world.specs.declared.halt.Halt.{Halt as Code}
use Rattle.pawk_world.specs.Halts.{Halt, halt_of}
use Rattle.pawk_store.specs.Parts.{Moment, Outcome, gives, halts}

-- the part ended as its definition says, at this moment; where memory was refused nothing is said
abbrev pub Yields : {S T X : Type 0} → (T → X) → Outcome S X → Result T Code → Moment S → Type 0
Yields view meant (Ok t) m = meant ≡ gives (view t) m
Yields view meant (Err e) m = (h : Halt) → halt_of e ≡ Some h → meant ≡ halts h m.world m.state m.output
