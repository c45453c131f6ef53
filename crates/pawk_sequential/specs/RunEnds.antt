-- What a run leaves, as the code has it.
use Rattle.std.specs.Prelude.{◌≡◌, ℕ, List, None}
use Rattle.pawk_code.specs.declared.leaf.Special.{Special}
use Rattle.pawk_store.specs.declared.specials.Specials.{Specials}
use Rattle.pawk_store.specs.Globals.{Globals}
use Rattle.pawk_store.specs.ListingViews.{special_of}
use Rattle.pawk_store.specs.RecordStates.{RecordState, special_value}
use Rattle.pawk_store.specs.StateViews.{state_of}
use Rattle.pawk_runtime.specs.declared.run.Run.{Run}
use Rattle.pawk_world.specs.Worlds.{Calls}
use Rattle.pawk_code.specs.Programs.{Code}
use Rattle.pawk_input.specs.Input.{Item}
use Rattle.pawk_store.specs.Records.{End}
use Rattle.pawk_store.specs.Runs.{Place, in_begin, at_record, in_end, Ending, status, fault_at, disallowed, Finish, records_from, after_records}
use Rattle.pawk_sequential.specs.declared.ending.Place.{Place as CodePlace}
use Rattle.pawk_sequential.specs.declared.ending.Place.TheVariants as place
use Rattle.pawk_sequential.specs.declared.ending.Ending.{Ending as CodeEnding}
use Rattle.pawk_sequential.specs.declared.ending.Ending.TheVariants as ending
use Rattle.pawk_sequential.specs.declared.finish.Finish.{Finish as CodeFinish}
use Rattle.pawk_sequential.specs.declared.outcome.Outcome.{Outcome as CodeOutcome}

abbrev pub place_view : CodePlace → Place
place_view place.Begin = in_begin
place_view (place.Record n) = at_record n
place_view place.End = in_end

abbrev pub ending_view : CodeEnding → Ending
ending_view (ending.Status n) = status n
ending_view (ending.Fault f p) = fault_at f (place_view p)
ending_view ending.Disallowed = disallowed

-- the end of a run, as the code has it
abbrev pub finish_view : {S : Type 0} → S → Run → CodeEnding → Finish S
finish_view world run ending = record {
  world = world;
  state = state_of run.state;
  output = run.output.items;
  ending = ending_view ending;
}

-- all records from an end on, and what follows them
abbrev pub run_and_end : {S : Type 0} → Calls S → Code → ℕ → List Item → End S → Finish S
run_and_end calls code budget records e =
    (let r = records_from calls code.expressions code budget None e records in after_records calls code.expressions code budget r.left r)

-- the variables that a run sets have these values in a record state
abbrev pub AreSpecials : Specials → RecordState → Type 0
AreSpecials specials state = (v : Special) → special_of specials v ≡ special_value v state

-- the world, the output, the variables that the run sets and the ending are those with which a run finished
pub record Finishes {S : Type 0} (meant : Finish S) (now : S) (shown : CodeFinish) : Type 0 where
  pub world : meant.world ≡ now
  pub output : meant.output ≡ shown.output
  pub specials : AreSpecials shown.specials meant.state
  pub ending : meant.ending ≡ ending_view shown.ending

-- the output, the globals, the variables that the run sets and the ending are those with which a run finished
pub record Answers (meant : Finish Globals) (outcome : CodeOutcome) : Type 0 where
  pub output : meant.output ≡ outcome.output
  pub globals : meant.world ≡ outcome.globals
  pub specials : AreSpecials outcome.specials meant.state
  pub ending : meant.ending ≡ ending_view outcome.ending

-- what a run leaves that finished so over these globals
abbrev pub outcome_of : CodeFinish → Globals → CodeOutcome
outcome_of finish globals =
    record { output = finish.output; globals = globals; specials = finish.specials; ending = finish.ending }
