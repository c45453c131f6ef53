-- Assignments that are made in the space of a variable.
use Rattle.std.specs.Prelude.{◌≡◌, ℕ, List, Bool, true, false, Some, Result, Ok, Err}
use Rattle.pawk_value.specs.Value.{Val}
use Rattle.pawk_world.specs.declared.halt.Halt.{Halt as Code}
use Rattle.pawk_world.specs.Halts.{Halt, halt_of}
use Rattle.pawk_world.specs.Worlds.{Calls}
use Rattle.pawk_code.specs.Expressions.{Expr, Place}
use Rattle.pawk_code.specs.Statements.{set}
use Rattle.pawk_store.specs.Parts.{Hold, Moment, Part, gives, halts}
use Rattle.pawk_store.specs.Meaning.{act}

-- whatever the expressions between slashes and the functions are: where the answer is that it was assigned, the moment is
-- the one after the assignment, else no moment changed; a halt is that of the assignment, and where memory was refused
-- nothing is said
abbrev pub IsAssigned : {S : Type 0} → Calls S → Place → Expr → Moment S → Result Bool Code → Moment S → Type 0
IsAssigned {S} calls to e old (Ok true) new =
    (eres : List (List ℕ)) (enter : ℕ → List Hold → Part S Val) → act calls eres enter (set to e) old ≡ gives tt new
IsAssigned {S} calls to e old (Ok false) new = new ≡ old
IsAssigned {S} calls to e old (Err halt) new =
    (h : Halt) → halt_of halt ≡ Some h →
    (eres : List (List ℕ)) (enter : ℕ → List Hold → Part S Val) → act calls eres enter (set to e) old ≡ halts h new.world new.state new.output
