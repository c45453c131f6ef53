-- What a run leaves that finished.
use Rattle.std.proofs.Common.{◌≡◌, ◌∙◌, ◌<◌, ◌≤◌, ℕ, Bool, true, false, nat_le, List, length, None, Result, Ok, Err, IfOk, sym, ap, subst, arith, if◌then◌else◌}
use Rattle.std.proofs.lemmas.Bool.Decides.{nat_tests}
use Rattle.std.specs.declared.alloc.AllocError.{AllocError}
use Rattle.pawk_store.specs.Globals.{Globals}
use Rattle.pawk_store.specs.RecordStates.{special_value}
use Rattle.pawk_store.specs.StateViews.{state_of}
use Rattle.pawk_runtime.specs.declared.run.Run.{Run}
use Rattle.pawk_value.specs.declared.faults.Fault.TheVariants as faults
use Rattle.pawk_world.specs.Worlds.{Calls}
use Rattle.pawk_code.specs.Programs.{Code}
use Rattle.pawk_input.specs.Input.{File, items}
use Rattle.pawk_store.specs.Records.{End}
use Rattle.pawk_store.specs.Runs.{Finish, at_record, fault_at, finish_of, records_from, after_records, records_by_rs, take_separator}
use Rattle.pawk_sequential.specs.declared.ending.Ending.{Ending}
use Rattle.pawk_sequential.specs.declared.finish.Finish.{Finish as CodeFinish}
use Rattle.pawk_sequential.specs.declared.outcome.Outcome.{Outcome}
use Rattle.pawk_sequential.specs.RunEnds.{Answers, AreSpecials, Finishes, ending_view, finish_view, outcome_of}

-- what is taken out of a run at its end is what it finished with
pub finishes : {S : Type 0} (meant : Finish S) (now : S) (run : Run) (e : Ending) (r : Result CodeFinish AllocError) → meant ≡ finish_view now run e → IfOk r (λ f. f.output ≡ run.output.items) → IfOk r (λ f. f.ending ≡ e) → IfOk r (λ f. AreSpecials f.specials (state_of run.state)) → IfOk r (Finishes meant now)
finishes meant now run e (Ok f) told output ending specials = record {
  world = ap (λ (y : Finish _). y.world) told;
  output = ap (λ (y : Finish _). y.output) told ∙ sym output;
  specials = λ v. specials v ∙ sym (ap (λ (y : Finish _). special_value v y.state) told);
  ending = ap (λ (y : Finish _). y.ending) told ∙ ap ending_view (sym ending);
}
finishes meant now run e (Err x) told output ending specials = tt

-- beside the globals over which it finished, that is what the run leaves
pub answers : (meant : Finish Globals) (globals : Globals) (finish : CodeFinish) (outcome : Outcome) → Finishes meant globals finish → outcome ≡ outcome_of finish globals → Answers meant outcome
answers meant globals finish outcome told is =
    let all : Answers meant (outcome_of finish globals) = record {
      output = told.output;
      globals = told.world;
      specials = told.specials;
      ending = told.ending;
    } in
    subst (Answers meant) (sym is) all

module _ {S : Type 0} (calls : Calls S) (eres : List (List ℕ)) (code : Code) (budget : ℕ) where
  -- how a run goes on where an RS has at most one byte, or more
  abbrev by_size : List ℕ → List File → End S → Bool → Finish S
  by_size rs files e is_short =
      if is_short
      then (let r = records_from calls eres code budget None (take_separator rs e) (items rs files) in after_records calls eres code budget r.left r)
      else finish_of (fault_at faults.Rs (at_record 1)) (take_separator rs e)

  -- an RS of more than one byte is a fault at record 1
  pub rs_faults : (text rs : List ℕ) (files : List File) (e taken : End S) → rs ≡ text → 1 < length rs → take_separator rs e ≡ taken → records_by_rs calls eres code budget text files e ≡ finish_of (fault_at faults.Rs (at_record 1)) taken
  rs_faults text rs files e taken same long took =
      let many : nat_le (length rs) 1 ≡ false = grind (arith, nat_tests) in
      ap (λ t. records_by_rs calls eres code budget t files e) (sym same)
      ∙ ap (by_size rs files e) many
      ∙ ap (finish_of (fault_at faults.Rs (at_record 1))) took

  -- by a shorter one the records are read, and what follows them
  pub rs_goes : (text rs : List ℕ) (files : List File) (e taken r : End S) (f : Finish S) → rs ≡ text → length rs ≤ 1 → take_separator rs e ≡ taken → records_from calls eres code budget None taken (items rs files) ≡ r → after_records calls eres code budget r.left r ≡ f → records_by_rs calls eres code budget text files e ≡ f
  rs_goes text rs files e taken r f same short took ran ends =
      let few : nat_le (length rs) 1 ≡ true = grind (arith, nat_tests) in
      ap (λ t. records_by_rs calls eres code budget t files e) (sym same)
      ∙ ap (by_size rs files e) few
      ∙ ap (λ (x : End S). let r = records_from calls eres code budget None x (items rs files) in after_records calls eres code budget r.left r) took
      ∙ ap (λ (r : End S). after_records calls eres code budget r.left r) ran
      ∙ ends
