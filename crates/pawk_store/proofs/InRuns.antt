-- first_calls whole run goes in step.
use Rattle.std.proofs.Common.{◌≡◌, ℕ, List, [], ◌++◌, length, Option, Some, None, refl, ap, sym, subst, inl, inr, ⊎_elim, Bool, true, false, if◌then◌else◌}
use Rattle.std.specs.Prelude.{nat_le}
use Rattle.pawk_value.specs.declared.faults.Fault.{Fault}
use Rattle.pawk_value.specs.declared.faults.Fault.TheVariants as faults
use Rattle.pawk_value.specs.Conversion.{text_of}
use Rattle.pawk_world.specs.Halts.{Halt}
use Rattle.pawk_world.specs.Halts as halt
use Rattle.pawk_world.specs.Worlds.{Calls}
use Rattle.pawk_store.specs.RecordStates.{RecordState}
use Rattle.pawk_store.specs.Slots.{rs_slot}
use Rattle.pawk_code.specs.Programs.{Code}
use Rattle.pawk_input.specs.Input.{File, Item, items}
use Rattle.pawk_store.specs.Records.{Left, through, next_file, exit, fault, clash, End, end_of_halt, run_part, one_record, actions}
use Rattle.pawk_store.specs.Runs.{Place, in_begin, at_record, in_end, Ending, status, fault_at, disallowed, Finish, reads_records, finish_of, at_end, take_separator, records_from, ends_from, after_records, records_by_rs, after_begin, run}
use Rattle.pawk_store.specs.Lockstep.{Access, Resource, IsPrefix, refusal_of, state_of, GoesOn, EndsBy}
use Rattle.pawk_store.specs.Allows.{AllowsCode}
use Rattle.pawk_store.specs.Laws.{EndReaches, RefusalsAreFinal, LeftBy, SameEnd, EndsInStep, IsAt, FinishReaches, EndingBy, FinishInStep}
use Rattle.pawk_store.proofs.Later.{Any, prefix_here, prefix_then}
use Rattle.pawk_store.proofs.Going.{Track, Goes}
use Rattle.pawk_store.proofs.InRecords.{KeepsItems, goes_actions, goes_record, Onto, records_onto, records_left, first_part, second_part, part_in_step, records_in_step}

if_both : {X : Type 0} (P : X → Type 0) (b : Bool) (x y : X) → P x → P y → P (if b then x else y)
if_both P true x y h k = h
if_both P false x y h k = k

-- How a run goes on from the end of one of its parts, by how that was left: a fault of the part is one at its place, and
-- a clash ends the run too.
record Passage (S : Type 0) (place : RecordState → Place) : Type 0 where
  go : Left → End S → Finish S
  at_fault : (f : Fault) (e : End S) → go (fault f) e ≡ finish_of (fault_at f (place e.state)) e
  at_clash : (e : End S) → go clash e ≡ finish_of disallowed e

-- ---- one world

module _ {S : Type 0} (permits : Access → Resource → Type 0) (before : S → S → Type 0) (calls : Calls S) (on : GoesOn permits before calls) where
  abbrev FinishOnto : End S → Finish S → Type 0
  FinishOnto e x = before e.world x.world × IsPrefix e.output x.output

  finish_here : (ending : Ending) (e : End S) → FinishOnto e (finish_of ending e)
  finish_here ending e = (on.here e.world, prefix_here e.output)

  finish_then : (e f : End S) (x : Finish S) → Onto permits before calls on e f → FinishOnto f x → FinishOnto e x
  finish_then e f x h k = (on.then e.world f.world x.world h.0 k.0, prefix_then e.output f.output x.output h.1 k.1)

  further : (q : S) (out : List ℕ) (e : End S) (x : Finish S) → e.world ≡ q → e.output ≡ out → FinishOnto e x → before q x.world × IsPrefix out x.output
  further q out e x h k onto = (subst (λ w. before w x.world) h onto.0, subst (λ o. IsPrefix o x.output) k onto.1)

  -- the run ends where the world refused, or goes on
  reaches_finish : (place : RecordState → Place) (p : Passage S place) (r : Option (Halt × S)) (s : S) (state : RecordState) (out : List ℕ) (e : End S) → ((left : Left) → FinishOnto e (p.go left e)) → EndReaches before r s state out e → FinishReaches before r s state out (place state) (p.go e.left e)
  reaches_finish place p None s state out e h is =
      (on.then s e.world (p.go e.left e).world is.0 (h e.left).0, prefix_then out e.output (p.go e.left e).output is.1 (h e.left).1)
  reaches_finish place p (Some (halt.fault f, q)) s state out e h is =
      subst (λ (x : End S). p.go x.left x ≡ record { world = q; state = state; output = out; ending = fault_at f (place state) }) (sym is) (p.at_fault f (end_of_halt (halt.fault f) q state out))
  reaches_finish place p (Some (halt.clash, q)) s state out e h is =
      subst (λ (x : End S). p.go x.left x ≡ record { world = q; state = state; output = out; ending = disallowed }) (sym is) (p.at_clash (end_of_halt halt.clash q state out))
  reaches_finish place p (Some (halt.next, q)) s state out e h is = further q out e (p.go e.left e) (ap (λ x. x.world) is) (ap (λ x. x.output) is) (h e.left)
  reaches_finish place p (Some (halt.next_file, q)) s state out e h is = further q out e (p.go e.left e) (ap (λ x. x.world) is) (ap (λ x. x.output) is) (h e.left)
  reaches_finish place p (Some (halt.exit n, q)) s state out e h is = further q out e (p.go e.left e) (ap (λ x. x.world) is) (ap (λ x. x.output) is) (h e.left)

-- what is run
pub record Program : Type 0 where
  pub eres : List (List ℕ)
  pub code : Code
  pub budget : ℕ

module _ {S : Type 0} (calls : Calls S) (p : Program) where
  abbrev begin_part : S → RecordState → End S
  begin_part s state = run_part (actions calls p.eres p.code.functions p.code.begins) p.budget s state []

  abbrev record_part : Item → End S → End S
  record_part i e = run_part (one_record calls p.eres p.code.functions p.code.rules i) p.budget e.world e.state e.output

  abbrev records_part : List ℕ → List File → End S → End S
  records_part rs files e = records_from calls p.eres p.code p.budget None (take_separator rs e) (items rs files)

  abbrev end_part : End S → End S
  end_part e = run_part (actions calls p.eres p.code.functions p.code.ends) p.budget e.world e.state e.output

  abbrev go_begin : List File → Left → End S → Finish S
  go_begin files left e = after_begin calls p.eres p.code p.budget files left e

  abbrev go_records : Left → End S → Finish S
  go_records left e = after_records calls p.eres p.code p.budget left e

  abbrev go_by_rs : List ℕ → List File → End S → Finish S
  go_by_rs rs files e = records_by_rs calls p.eres p.code p.budget rs files e

  abbrev go_ends : End S → Finish S
  go_ends e = ends_from calls p.eres p.code p.budget e

  -- the passages of a run
  abbrev begin_passage : List File → Passage S (λ state. in_begin)
  begin_passage files = record { go = go_begin files; at_fault = λ f e. refl; at_clash = λ e. refl }

  abbrev records_passage : Passage S (λ state. at_record state.nr)
  records_passage = record { go = go_records; at_fault = λ f e. refl; at_clash = λ e. refl }

abbrev end_passage : {S : Type 0} → Passage S (λ state. in_end)
end_passage = record { go = at_end; at_fault = λ f e. refl; at_clash = λ e. refl }

-- a program over one world, whose parts go on
record Single (S : Type 0) (p : Program) : Type 1 where
  permits : Access → Resource → Type 0
  before : S → S → Type 0
  calls : Calls S
  on : GoesOn permits before calls
  record_goes : (i : Item) (e : End S) → Onto permits before calls on e (record_part calls p i e) × LeftBy (EndsBy on) (record_part calls p i e).left
  end_goes : (e : End S) → Onto permits before calls on e (end_part calls p e) × LeftBy (EndsBy on) (end_part calls p e).left

module _ {S : Type 0} (p : Program) (w : Single S p) where
  abbrev Further : End S → Finish S → Type 0
  Further e x = FinishOnto w.permits w.before w.calls w.on e x

  stop : (ending : Ending) (e : End S) → Further e (finish_of ending e)
  stop ending e = finish_here w.permits w.before w.calls w.on ending e

  at_end_onto : (left : Left) (e : End S) → Further e (at_end left e)
  at_end_onto through e = stop (status e.state.status) e
  at_end_onto next_file e = stop (status e.state.status) e
  at_end_onto (exit n) e = stop (status n) e
  at_end_onto (fault f) e = stop (fault_at f in_end) e
  at_end_onto clash e = stop disallowed e

  ends_onto : (e : End S) → Further e (go_ends w.calls p e)
  ends_onto e =
      let r = end_part w.calls p e in
      finish_then w.permits w.before w.calls w.on e r (at_end r.left r) (w.end_goes e).0 (at_end_onto r.left r)

  records_finish_onto : (left : Left) (e : End S) → Further e (go_records w.calls p left e)
  records_finish_onto through e = ends_onto e
  records_finish_onto next_file e = ends_onto e
  records_finish_onto (exit n) e = ends_onto e
  records_finish_onto (fault f) e = stop (fault_at f (at_record e.state.nr)) e
  records_finish_onto clash e = stop disallowed e

  by_rs_onto : (rs : List ℕ) (files : List File) (e : End S) → Further e (go_by_rs w.calls p rs files e)
  by_rs_onto rs files e =
      let r = records_part w.calls p rs files e in
      if_both (Further e) (nat_le (length rs) 1) (go_records w.calls p r.left r) (finish_of (fault_at faults.Rs (at_record 1)) (take_separator rs e))
      (finish_then w.permits w.before w.calls w.on e r (go_records w.calls p r.left r)
      (records_onto w.permits w.before w.calls w.on p.eres p.code p.budget w.record_goes (items rs files) None (take_separator rs e))
      (records_finish_onto r.left r))
      (stop (fault_at faults.Rs (at_record 1)) e)

  begin_onto : (files : List File) (left : Left) (e : End S) → Further e (go_begin w.calls p files left e)
  begin_onto files through e =
      let rs = text_of (w.calls.look rs_slot e.world) in
      if_both (Further e) (reads_records p.code) (go_by_rs w.calls p rs files e) (go_ends w.calls p e) (by_rs_onto rs files e) (ends_onto e)
  begin_onto files next_file e = ends_onto e
  begin_onto files (exit n) e = ends_onto e
  begin_onto files (fault f) e = stop (fault_at f in_begin) e
  begin_onto files clash e = stop disallowed e

  -- how a run ends
  abbrev Ended : Finish S → Type 0
  Ended x = EndingBy (EndsBy w.on) x.ending

  at_end_ended : (left : Left) (e : End S) → LeftBy (EndsBy w.on) left → Ended (at_end left e)
  at_end_ended through e h = tt
  at_end_ended next_file e h = tt
  at_end_ended (exit n) e h = tt
  at_end_ended (fault f) e h = h
  at_end_ended clash e h = h

  ends_ended : (e : End S) → Ended (go_ends w.calls p e)
  ends_ended e = let r = end_part w.calls p e in at_end_ended r.left r (w.end_goes e).1

  records_ended : (left : Left) (e : End S) → LeftBy (EndsBy w.on) left → Ended (go_records w.calls p left e)
  records_ended through e h = ends_ended e
  records_ended next_file e h = ends_ended e
  records_ended (exit n) e h = ends_ended e
  records_ended (fault f) e h = h
  records_ended clash e h = h

  by_rs_ended : (rs : List ℕ) (files : List File) (e : End S) → LeftBy (EndsBy w.on) e.left → Ended (go_by_rs w.calls p rs files e)
  by_rs_ended rs files e h =
      let r = records_part w.calls p rs files e in
      if_both Ended (nat_le (length rs) 1) (go_records w.calls p r.left r) (finish_of (fault_at faults.Rs (at_record 1)) (take_separator rs e))
      (records_ended r.left r (records_left w.permits w.before w.calls w.on p.eres p.code p.budget w.record_goes (items rs files) None (take_separator rs e) h))
      (w.on.at_fault faults.Rs)

  begin_ended : (files : List File) (left : Left) (e : End S) → LeftBy (EndsBy w.on) left → LeftBy (EndsBy w.on) e.left → Ended (go_begin w.calls p files left e)
  begin_ended files through e h k =
      let rs = text_of (w.calls.look rs_slot e.world) in
      if_both Ended (reads_records p.code) (go_by_rs w.calls p rs files e) (go_ends w.calls p e) (by_rs_ended rs files e k) (ends_ended e)
  begin_ended files next_file e h k = ends_ended e
  begin_ended files (exit n) e h k = ends_ended e
  begin_ended files (fault f) e h k = h
  begin_ended files clash e h k = h

-- ---- two worlds

module _ {S T : Type 0} (t : Track S T) where
  same_finish : (ending : Ending) (e : End S) (f : End T) → SameEnd t.pair e f → FinishInStep t.pair (finish_of ending e) (finish_of ending f)
  same_finish ending e f same = inl (record { worlds = same.worlds; states = same.states; outputs = same.outputs; endings = refl })

  same_finish_by : (ending : RecordState → Ending) (e : End S) (f : End T) → SameEnd t.pair e f → FinishInStep t.pair (finish_of (ending e.state) e) (finish_of (ending f.state) f)
  same_finish_by ending e f same = inl (record { worlds = same.worlds; states = same.states; outputs = same.outputs; endings = ap ending same.states })

  at_end_same : (left : Left) (e : End S) (f : End T) → SameEnd t.pair e f → FinishInStep t.pair (at_end left e) (at_end left f)
  at_end_same through e f same = same_finish_by (λ state. status state.status) e f same
  at_end_same next_file e f same = same_finish_by (λ state. status state.status) e f same
  at_end_same (exit n) e f same = same_finish (status n) e f same
  at_end_same (fault x) e f same = same_finish (fault_at x in_end) e f same
  at_end_same clash e f same = same_finish disallowed e f same

  same_taken : (rs : List ℕ) (e : End S) (f : End T) → SameEnd t.pair e f → SameEnd t.pair (take_separator rs e) (take_separator rs f)
  same_taken rs e f same = record { worlds = same.worlds; states = ap (λ (x : RecordState). record x { taken = Some rs }) same.states; outputs = same.outputs; lefts = same.lefts }

  step_if : (b : Bool) (x x' : Finish S) (y y' : Finish T) → FinishInStep t.pair x y → FinishInStep t.pair x' y' → FinishInStep t.pair (if b then x else x') (if b then y else y')
  step_if true x x' y y' h k = h
  step_if false x x' y y' h k = k

  -- from two ends in step both go on in step
  pass_in_step : (place : RecordState → Place) → ((state : RecordState) → IsAt state (place state)) → (p : Passage S place) (p' : Passage T place) (e : End S) (f : End T) → ((left : Left) → FinishOnto t.pair.permits t.pair.before t.pair.first_calls t.first e (p.go left e)) → ((left : Left) → FinishOnto t.pair.permits t.pair.before_second t.pair.second_calls t.second f (p'.go left f)) → ((left : Left) → SameEnd t.pair e f → FinishInStep t.pair (p.go left e) (p'.go left f)) → EndsInStep t.pair e f → FinishInStep t.pair (p.go e.left e) (p'.go f.left f)
  pass_in_step place is_at p p' e f onto onto' go = ⊎_elim
      (λ k. subst (λ x. FinishInStep t.pair (p.go e.left e) (p'.go x f)) k.lefts (go e.left k))
      (λ k. let a = t.pair.first_calls.ask k.request k.first in let b = t.pair.second_calls.ask k.request k.second in inr (record {
        request = k.request;
        permitted = k.permitted;
        first = k.first;
        second = k.second;
        state = k.state;
        output = k.output;
        second_output = k.second_output;
        outputs = k.outputs;
        place = place k.state;
        is_at = is_at k.state;
        related = k.related;
        parts_there = k.parts_there;
        first_then = reaches_finish t.pair.permits t.pair.before t.pair.first_calls t.first place p (refusal_of a) (state_of a) k.state k.output e onto k.first_then;
        second_then = reaches_finish t.pair.permits t.pair.before_second t.pair.second_calls t.second place p' (refusal_of b) (state_of b) k.state k.second_output f onto' k.second_then;
      }))

module _ {S T : Type 0} (t : Track S T) (keeps : KeepsItems t) (p : Program) (may : AllowsCode t.pair.permits p.code) where
  abbrev first_calls : Calls S
  first_calls = t.pair.first_calls

  abbrev second_calls : Calls T
  second_calls = t.pair.second_calls

  goes_begins : Goes t Any (actions first_calls p.eres p.code.functions p.code.begins) (actions second_calls p.eres p.code.functions p.code.begins)
  goes_begins = goes_actions p.eres p.code.functions may.2.1 p.code.begins may.0

  goes_one : (i : Item) → Goes t Any (one_record first_calls p.eres p.code.functions p.code.rules i) (one_record second_calls p.eres p.code.functions p.code.rules i)
  goes_one i = goes_record p.eres p.code.functions p.code.rules may.2 keeps i

  goes_ends : Goes t Any (actions first_calls p.eres p.code.functions p.code.ends) (actions second_calls p.eres p.code.functions p.code.ends)
  goes_ends = goes_actions p.eres p.code.functions may.2.1 p.code.ends may.3

  abbrev first_run : Single S p
  first_run = record {
    permits = t.pair.permits;
    before = t.pair.before;
    calls = first_calls;
    on = t.first;
    record_goes = λ i. first_part p.budget (goes_one i);
    end_goes = first_part p.budget goes_ends;
  }

  abbrev second_run : Single T p
  second_run = record {
    permits = t.pair.permits;
    before = t.pair.before_second;
    calls = second_calls;
    on = t.second;
    record_goes = λ i. second_part p.budget (goes_one i);
    end_goes = second_part p.budget goes_ends;
  }

  ends_in_step : (e : End S) (f : End T) → SameEnd t.pair e f → FinishInStep t.pair (go_ends first_calls p e) (go_ends second_calls p f)
  ends_in_step e f same =
      let r = end_part first_calls p e in
      let r' = end_part second_calls p f in
      pass_in_step t (λ state. in_end) (λ state. tt) end_passage end_passage r r'
      (λ left. at_end_onto p first_run left r)
      (λ left. at_end_onto p second_run left r')
      (λ left. at_end_same t left r r')
      (part_in_step p.budget goes_ends e f same)

  records_same : (left : Left) (e : End S) (f : End T) → SameEnd t.pair e f → FinishInStep t.pair (go_records first_calls p left e) (go_records second_calls p left f)
  records_same through e f same = ends_in_step e f same
  records_same next_file e f same = ends_in_step e f same
  records_same (exit n) e f same = ends_in_step e f same
  records_same (fault x) e f same = same_finish_by t (λ state. fault_at x (at_record state.nr)) e f same
  records_same clash e f same = same_finish t disallowed e f same

  by_rs_in_step : RefusalsAreFinal t.pair.first_calls → RefusalsAreFinal t.pair.second_calls → (rs : List ℕ) (files : List File) (e : End S) (f : End T) → SameEnd t.pair e f → FinishInStep t.pair (go_by_rs first_calls p rs files e) (go_by_rs second_calls p rs files f)
  by_rs_in_step final final' rs files e f same =
      let r = records_part first_calls p rs files e in
      let r' = records_part second_calls p rs files f in
      let same' = same_taken t rs e f same in
      step_if t (nat_le (length rs) 1)
      (go_records first_calls p r.left r) (finish_of (fault_at faults.Rs (at_record 1)) (take_separator rs e))
      (go_records second_calls p r'.left r') (finish_of (fault_at faults.Rs (at_record 1)) (take_separator rs f))
      (pass_in_step t (λ state. at_record state.nr) (λ state. refl) (records_passage first_calls p) (records_passage second_calls p) r r'
      (λ left. records_finish_onto p first_run left r)
      (λ left. records_finish_onto p second_run left r')
      (λ left. records_same left r r')
      (records_in_step t keeps final final' p.eres p.code may.2 p.budget (items rs files) None (take_separator rs e) (take_separator rs f) same'))
      (same_finish t (fault_at faults.Rs (at_record 1)) (take_separator rs e) (take_separator rs f) same')

  begin_same : RefusalsAreFinal t.pair.first_calls → RefusalsAreFinal t.pair.second_calls → (files : List File) (left : Left) (e : End S) (f : End T) → SameEnd t.pair e f → FinishInStep t.pair (go_begin first_calls p files left e) (go_begin second_calls p files left f)
  begin_same final final' files through e f same =
      let rs = text_of (first_calls.look rs_slot e.world) in
      let rs' = text_of (second_calls.look rs_slot f.world) in
      step_if t (reads_records p.code) (go_by_rs first_calls p rs files e) (go_ends first_calls p e) (go_by_rs second_calls p rs' files f) (go_ends second_calls p f)
      (subst (λ v. FinishInStep t.pair (go_by_rs first_calls p rs files e) (go_by_rs second_calls p (text_of v) files f)) (t.lockstep.look rs_slot may.1 e.world f.world same.worlds) (by_rs_in_step final final' rs files e f same))
      (ends_in_step e f same)
  begin_same final final' files next_file e f same = ends_in_step e f same
  begin_same final final' files (exit n) e f same = ends_in_step e f same
  begin_same final final' files (fault x) e f same = same_finish t (fault_at x in_begin) e f same
  begin_same final final' files clash e f same = same_finish t disallowed e f same

  module _ (files : List File) (s : S) (u : T) (state : RecordState) where
    abbrev opening_end : {Q : Type 0} → Q → End Q
    opening_end q = record { world = q; state = state; output = []; left = through }

    pub run_in_step : t.pair.ahead ≡ [] → RefusalsAreFinal t.pair.first_calls → RefusalsAreFinal t.pair.second_calls → t.pair.alike s u → FinishInStep t.pair (run first_calls p.eres p.code p.budget files s state) (run second_calls p.eres p.code p.budget files u state)
    run_in_step none final final' related =
        let r = begin_part first_calls p s state in
        let r' = begin_part second_calls p u state in
        pass_in_step t (λ state. in_begin) (λ state. tt) (begin_passage first_calls p files) (begin_passage second_calls p files) r r'
        (λ left. begin_onto p first_run files left r)
        (λ left. begin_onto p second_run files left r')
        (λ left. begin_same final final' files left r r')
        (part_in_step p.budget goes_begins (opening_end s) (opening_end u) (record { worlds = related; states = refl; outputs = sym (ap (λ a. a ++ []) none); lefts = refl }))

    pub first_ended : EndingBy (EndsBy t.first) (run first_calls p.eres p.code p.budget files s state).ending
    first_ended =
        let r = begin_part first_calls p s state in
        let left = (first_part p.budget goes_begins (opening_end s)).1 in
        begin_ended p first_run files r.left r left left

    pub second_ended : EndingBy (EndsBy t.second) (run second_calls p.eres p.code p.budget files u state).ending
    second_ended =
        let r = begin_part second_calls p u state in
        let left = (second_part p.budget goes_begins (opening_end u)).1 in
        begin_ended p second_run files r.left r left left
