-- What a part of a run leaves, as the code has it.
use Rattle.std.specs.Prelude.{◌≡◌, ℕ, Bool, true, false, Option, Some, None, Result, Ok, Err}
use Rattle.pawk_store.specs.StateViews.{state_of}
use Rattle.pawk_runtime.specs.declared.run.Run.{Run}
use Rattle.pawk_world.specs.declared.halt.Halt.{Halt as Code}
use Rattle.pawk_world.specs.Halts.{Halt, halt_of}
use Rattle.pawk_store.specs.Parts.{Moment, Outcome, gives, halts}
use Rattle.pawk_store.specs.Records.{Left as Leaving, through, next_file, exit, fault, clash, End}
use Rattle.pawk_store.specs.LeftViews.{left_view}
use Rattle.pawk_store.specs.declared.left.Left.{Left}

-- whether no record is read after a part that is left so
abbrev pub ends_records : Leaving → Bool
ends_records through = false
ends_records next_file = false
ends_records (exit n) = true
ends_records (fault f) = true
ends_records clash = true

-- the file whose rest is left unread after a record of it
abbrev pub file_left : Leaving → ℕ → Option ℕ
file_left through file = None
file_left next_file file = Some file
file_left (exit n) file = None
file_left (fault f) file = None
file_left clash file = None

abbrev pub end_view : {S : Type 0} → S → Run → Left → End S
end_view world run left = record {
  world = world;
  state = state_of run.state;
  output = run.output.items;
  left = left_view left;
}

module _ {S : Type 0} where
  -- a part halted so at this moment; where memory was refused nothing is said
  abbrev pub HaltsBy : Outcome S (Unit {0}) → Code → Moment S → Type 0
  HaltsBy outcome e m = (h : Halt) → halt_of e ≡ Some h → outcome ≡ halts h m.world m.state m.output

  -- a part ended so at this moment
  abbrev pub EndsBy : Outcome S (Unit {0}) → Result (Unit {0}) Code → Moment S → Type 0
  EndsBy outcome (Ok t) m = outcome ≡ gives tt m
  EndsBy outcome (Err e) m = HaltsBy outcome e m
