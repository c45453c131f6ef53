-- BEGIN reads no record.
use Rattle.std.proofs.Common.{◌≡◌, ℕ, List, [], length, sym, Option, Some, None, refl, ap, ◌∙◌, inl, subst, true}
use Rattle.pawk_world.specs.Halts.{Halt}
use Rattle.pawk_world.specs.Halts as halt
use Rattle.pawk_world.specs.Worlds.{Answer, Calls}
use Rattle.pawk_world.specs.Worlds as world
use Rattle.pawk_store.specs.RecordStates.{RecordState, opening}
use Rattle.pawk_code.specs.Programs.{Code}
use Rattle.pawk_store.specs.Parts.{Outcome, gives, halts}
use Rattle.pawk_store.specs.Records.{End, end_of, run_part, opening_moment, actions}
use Rattle.pawk_store.specs.Lockstep.{Pair, record_state_of, refusal_of, SameAnswer, AreInLockstep, RefusesIn, GoesOn}
use Rattle.pawk_store.specs.Globals.{Globals, calls}
use Rattle.pawk_store.specs.Openings.{opened}
use Rattle.pawk_routes.specs.Routes.{begin_end}
use Rattle.pawk_store.proofs.Later.{Order}
use Rattle.pawk_store.proofs.Going.{Track}
use Rattle.pawk_store.proofs.InRecords.{goes_actions}
use Rattle.pawk_store.proofs.Everything.{everything, any_code}

-- the same NR
abbrev nr_order : Order everything
nr_order = record {
  keeps = λ s t. t.nr ≡ s.nr;
  here = λ s. refl;
  then = λ s t u h k. k ∙ h;
  line = λ s r. refl;
  match = λ may s start size. refl;
  ranges = λ may s inside. refl;
}

refused : {S : Type 0} (r : Option (Halt × S)) → RefusesIn (λ h. true ≡ true) r
refused None = tt
refused (Some r) = refl

same_answer : {S X : Type 0} (a : Answer S X) → SameAnswer (λ s t. s ≡ t) a a
same_answer (world.gives x s) = (refl, refl)
same_answer (world.halts h s) = (refl, refl)

end_nr : {S X : Type 0} (o : Outcome S X) → (end_of o).state.nr ≡ (record_state_of o).nr
end_nr (gives x m) = refl
end_nr (halts (halt.fault f) s state out) = refl
end_nr (halts halt.clash s state out) = refl
end_nr (halts halt.next s state out) = refl
end_nr (halts halt.next_file s state out) = refl
end_nr (halts (halt.exit n) s state out) = refl

module _ {S : Type 0} (calls : Calls S) where
  abbrev with_itself : Pair S S
  with_itself = record {
    first_calls = calls;
    second_calls = calls;
    alike = λ s t. s ≡ t;
    before = λ s t. Unit {0};
    before_second = λ s t. Unit {0};
    permits = everything;
    parts = λ q s t. ⊥;
    ahead = [];
  }

  in_lockstep : AreInLockstep with_itself
  in_lockstep = record {
    look = λ n may s t e. ap (calls.look n) e;
    ask = λ q may s t e. inl (subst (λ u. SameAnswer (λ x y. x ≡ y) (calls.ask q s) (calls.ask q u)) e (same_answer (calls.ask q s)));
  }

  abbrev goes : GoesOn everything (λ (s t : S). Unit {0}) calls
  goes = record {
    here = λ s. tt;
    then = λ s t u h k. tt;
    ask = λ q may s. tt;
    ends = λ h. true;
    at_fault = λ f. refl;
    at_next = refl;
    at_next_file = λ may. refl;
    at_exit = λ n. refl;
    refuses = λ q may s. refused (refusal_of (calls.ask q s));
  }

  abbrev nr_track : Track S S
  nr_track = record { pair = with_itself; lockstep = in_lockstep; first = goes; second = goes; order = nr_order }

  -- after BEGIN NR is what it was before
  pub begin_keeps_nr : (code : Code) (budget : ℕ) (s : S) (state : RecordState) →
      (run_part (actions calls code.expressions code.functions code.begins) budget s state []).state.nr ≡ state.nr
  begin_keeps_nr code budget s state =
      let may = any_code code in
      let part = actions calls code.expressions code.functions code.begins in
      let m = opening_moment budget s state [] in
      end_nr (part m) ∙ ((goes_actions {t = nr_track} code.expressions code.functions may.2.1 code.begins may.0).first m tt).state

pub none_read : (code : Code) (budget : ℕ) (assignments : List (List ℕ × List ℕ)) (e : End Globals) →
    begin_end code budget assignments ≡ e → e.state.nr ≡ 0
none_read code budget assignments e is =
    ap (λ (x : End Globals). x.state.nr) (sym is)
    ∙ begin_keeps_nr calls code budget (opened code.scalars (length code.arrays) assignments) (opening (length code.rules))
