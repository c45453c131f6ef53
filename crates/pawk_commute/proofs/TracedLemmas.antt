-- The globals with a trace in lockstep with those without.
use Rattle.std.proofs.Common.{◌≡◌, ℤ, true, List, ◌++◌, append_assoc, Option, Some, None, Result, Ok, Err, refl, ap, ◌∙◌, subst, inl, ⊎_elim}
use Rattle.pawk_value.specs.declared.faults.Fault.{Fault}
use Rattle.pawk_world.specs.Halts.{Halt}
use Rattle.pawk_world.specs.Worlds.{Cell, Request, Answer, gives, halts}
use Rattle.pawk_world.specs.Worlds as request
use Rattle.pawk_value.specs.Conversion.{num_of}
use Rattle.pawk_world.specs.Sums.{arith_by, op_of}
use Rattle.pawk_store.specs.Globals.{Globals, value_at, calls, with_sum}
use Rattle.pawk_store.specs.Records.{Left, through, next_file, exit, fault, clash, End}
use Rattle.pawk_store.specs.Lockstep.{refusal_of, RefusesIn, SameAnswer, AreInLockstep, FirstGoesOn, SecondGoesOn}
use Rattle.pawk_store.specs.Laws.{SameEnd, EndsInStep, LeftBy, IsFinal, RefusalsAreFinal}
use Rattle.pawk_commute.specs.Traces.{Event, Traced, events_of, traced_answer, traced}
use Rattle.pawk_commute.specs.TracedRuns.{plain, traced_pair, with_trace_before, longer_pair}

same_answer : {X : Type 0} (trace more : List Event) (a : Answer Globals X) → SameAnswer (λ (s : Traced) g. s.globals ≡ g) (traced_answer trace more a) a
same_answer trace more (gives x g) = (refl, refl)
same_answer trace more (halts h g) = (refl, refl)

pub in_lockstep : AreInLockstep (traced_pair tt)
in_lockstep = record {
  look = λ n may s g h. ap (calls.look n) h;
  ask = λ q may s g h. inl (subst (λ g'. SameAnswer (λ (s : Traced) k. s.globals ≡ k) ((traced calls).ask q s) (calls.ask q g')) h (same_answer s.trace (events_of q s.globals) (calls.ask q s.globals)));
}

pub any_refusal : {S : Type 0} (r : Option (Halt × S)) → RefusesIn (λ h. true ≡ true) r
any_refusal None = tt
any_refusal (Some r) = refl

abbrev pub first_goes_on : FirstGoesOn (traced_pair tt)
first_goes_on = record {
  here = λ s. tt;
  then = λ s t u h k. tt;
  ask = λ q may s. tt;
  ends = λ h. true;
  at_fault = λ f. refl;
  at_next = refl;
  at_next_file = λ may. refl;
  at_exit = λ n. refl;
  refuses = λ q may s. any_refusal (refusal_of ((traced calls).ask q s));
}

abbrev pub second_goes_on : SecondGoesOn (traced_pair tt)
second_goes_on = record {
  here = λ s. tt;
  then = λ s t u h k. tt;
  ask = λ q may s. tt;
  ends = λ h. true;
  at_fault = λ f. refl;
  at_next = refl;
  at_next_file = λ may. refl;
  at_exit = λ n. refl;
  refuses = λ q may s. any_refusal (refusal_of (calls.ask q s));
}

sum_final : (c : Cell) (r : Result ℤ Fault) (g : Globals) → IsFinal (refusal_of (with_sum c r g))
sum_final c (Ok z) g = tt
sum_final c (Err f) g = tt

pub plain_final : RefusalsAreFinal calls
plain_final (request.read n key) g = tt
plain_final (request.old n key) g = tt
plain_final (request.write c v) g = tt
plain_final (request.add sign c y) g = sum_final c (arith_by (op_of sign) (num_of (value_at c g)) y) g
plain_final (request.test n key) g = tt
plain_final (request.remove n key) g = tt
plain_final (request.clear n) g = tt
plain_final (request.keys n) g = tt

pub left_anyhow : (w : Left) → LeftBy (λ h. true ≡ true) w
left_anyhow through = tt
left_anyhow next_file = refl
left_anyhow (exit n) = refl
left_anyhow (fault f) = refl
left_anyhow clash = refl

pub plain_alike : (e : End Traced) → SameEnd (traced_pair tt) e (plain e)
plain_alike e = record { worlds = refl; states = refl; outputs = refl; lefts = refl }

same_end : (e : End Traced) (f : End Globals) → SameEnd (traced_pair tt) e f → plain e ≡ f
same_end e f h = λ i. record { world = h.worlds i; state = h.states i; output = h.outputs i; left = h.lefts i }

pub in_step : (e : End Traced) (f : End Globals) → EndsInStep (traced_pair tt) e f → plain e ≡ f
in_step e f = ⊎_elim (λ h. same_end e f h) (λ p. absurd p.parts_there)

-- ---- the same with more in front of the trace

module _ (before : List Event) where
  longer_answer : {X : Type 0} (s t : List Event) (more : List Event) (a : Answer Globals X) → s ≡ before ++ t → SameAnswer (λ (u v : Traced). (u.globals ≡ v.globals) × (u.trace ≡ before ++ v.trace)) (traced_answer s more a) (traced_answer t more a)
  longer_answer s t more (gives x g) h = (refl, (refl, ap (λ x. x ++ more) h ∙ append_assoc before t more))
  longer_answer s t more (halts k g) h = (refl, (refl, h))

  pub longer_lockstep : AreInLockstep (longer_pair before)
  longer_lockstep = record {
    look = λ n may s t h. ap (calls.look n) h.0;
    ask = λ q may s t h. inl (subst (λ g. SameAnswer (λ (u v : Traced). (u.globals ≡ v.globals) × (u.trace ≡ before ++ v.trace)) ((traced calls).ask q s) (traced_answer t.trace (events_of q g) (calls.ask q g))) h.0 (longer_answer s.trace t.trace (events_of q s.globals) (calls.ask q s.globals) h.1));
  }

  pub longer_alike : (e : End Traced) → SameEnd (longer_pair before) (with_trace_before before e) e
  longer_alike e = record { worlds = (refl, refl); states = refl; outputs = refl; lefts = refl }

  longer_end : (e f : End Traced) → SameEnd (longer_pair before) e f → e ≡ with_trace_before before f
  longer_end e f h = λ i. record { world = record { globals = h.worlds.0 i; trace = h.worlds.1 i }; state = h.states i; output = h.outputs i; left = h.lefts i }

  pub longer_in_step : (e f : End Traced) → EndsInStep (longer_pair before) e f → e ≡ with_trace_before before f
  longer_in_step e f = ⊎_elim (λ h. longer_end e f h) (λ p. absurd p.parts_there)
