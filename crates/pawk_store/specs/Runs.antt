-- The run of a program: the actions of BEGIN, then each record, then the actions of END.
-- POSIX.1-2017, awk, "Overall Program Structure", "Actions" (exit) and "Variables and Special Variables" (RS).
use Rattle.std.specs.Prelude.{ℕ, ◌==◌, Bool, true, false, if◌then◌else◌, nat_le, List, [], ◌∷◌, length, Option, Some, None}
use Rattle.pawk_value.specs.declared.faults.Fault.{Fault}
use Rattle.pawk_value.specs.declared.faults.Fault.TheVariants as faults
use Rattle.pawk_value.specs.Conversion.{text_of}
use Rattle.pawk_world.specs.Worlds.{Calls}
use Rattle.pawk_store.specs.RecordStates.{RecordState}
use Rattle.pawk_store.specs.Slots.{rs_slot}
use Rattle.pawk_code.specs.Programs.{Code}
use Rattle.pawk_input.specs.Input.{File, Item, items}
use Rattle.pawk_store.specs.Records.{Left, through, next_file, exit, fault, clash, End, run_part, one_record, actions}

-- where a run faults
pub data Place : Type 0 where
  in_begin : Place
  at_record : ℕ → Place
  in_end : Place

-- how a run ends: with a status, with a fault at a place, or because the world did not allow what it did
pub data Ending : Type 0 where
  status : ℕ → Ending
  fault_at : Fault → Place → Ending
  disallowed : Ending

pub record Finish (S : Type 0) : Type 0 where
  pub world : S
  pub state : RecordState
  pub output : List ℕ
  pub ending : Ending

abbrev pub has_some : {X : Type 0} → List X → Bool
has_some [] = false
has_some (x ∷ xs) = true

-- whether records are read: where there is a main rule or an action of END
abbrev pub reads_records : Code → Bool
reads_records code = if has_some code.rules then true else has_some code.ends

-- whether a record is of the file whose rest is left unread
abbrev pub is_skipped : Option ℕ → Item → Bool
is_skipped None i = false
is_skipped (Some file) i = i.file == file

module _ {S : Type 0} where
  abbrev pub finish_of : Ending → End S → Finish S
  finish_of ending e = record { world = e.world; state = e.state; output = e.output; ending = ending }

  -- how a run goes on after a record: `nextfile` leaves the rest of its file unread
  abbrev pub after_leaving : (Option ℕ → End S → End S) → ℕ → Left → End S → End S
  after_leaving go file through e = go None e
  after_leaving go file next_file e = go (Some file) e
  after_leaving go file (exit n) e = e
  after_leaving go file (fault f) e = e
  after_leaving go file clash e = e

  -- the end of a run after the actions of END
  abbrev pub at_end : Left → End S → Finish S
  at_end through e = finish_of (status e.state.status) e
  at_end next_file e = finish_of (status e.state.status) e
  at_end (exit n) e = finish_of (status n) e
  at_end (fault f) e = finish_of (fault_at f in_end) e
  at_end clash e = finish_of disallowed e

  abbrev pub take_separator : List ℕ → End S → End S
  take_separator rs e = record e { state = record e.state { taken = Some rs } }

module _ {S : Type 0} (calls : Calls S) (eres : List (List ℕ)) (code : Code) (budget : ℕ) where
  -- the records from an end of what came before
  abbrev pub records_from : Option ℕ → End S → List Item → End S
  records_from skip e [] = e
  records_from skip e (i ∷ is') =
      if is_skipped skip i then records_from skip e is' else
      (let r = run_part (one_record calls eres code.functions code.rules i) budget e.world e.state e.output in
      after_leaving (λ s x. records_from s x is') i.file r.left r)

  abbrev pub ends_from : End S → Finish S
  ends_from e =
      let r = run_part (actions calls eres code.functions code.ends) budget e.world e.state e.output in at_end r.left r

  -- how the run goes on after the records; a fault is at the record that was read last
  abbrev pub after_records : Left → End S → Finish S
  after_records through e = ends_from e
  after_records next_file e = ends_from e
  after_records (exit n) e = ends_from e
  after_records (fault f) e = finish_of (fault_at f (at_record e.state.nr)) e
  after_records clash e = finish_of disallowed e

  -- the records of files by RS as BEGIN left it; RS of more than one byte is a fault at record 1
  abbrev pub records_by_rs : List ℕ → List File → End S → Finish S
  records_by_rs rs files e =
      if nat_le (length rs) 1
      then (let r = records_from None (take_separator rs e) (items rs files) in after_records r.left r)
      else finish_of (fault_at faults.Rs (at_record 1)) (take_separator rs e)

  -- how the run goes on after BEGIN: `exit` leads to END
  abbrev pub after_begin : List File → Left → End S → Finish S
  after_begin files through e =
      if reads_records code then records_by_rs (text_of (calls.look rs_slot e.world)) files e else ends_from e
  after_begin files next_file e = ends_from e
  after_begin files (exit n) e = ends_from e
  after_begin files (fault f) e = finish_of (fault_at f in_begin) e
  after_begin files clash e = finish_of disallowed e

  -- the run of a program from a world and a record state
  abbrev pub run : List File → S → RecordState → Finish S
  run files s state =
      let r = run_part (actions calls eres code.functions code.begins) budget s state [] in after_begin files r.left r
