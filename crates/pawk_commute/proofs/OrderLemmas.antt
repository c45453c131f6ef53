-- How a store's trace and a chunk's table go on, and how the two refuse.
use Rattle.std.proofs.Common.{◌≡◌, ℕ, ℤ, List, [], ◌∷◌, ◌++◌, Option, Some, None, Bool, true, false, if◌then◌else◌, Result, Ok, Err, refl, ap, sym, ◌∙◌, append_assoc}
use Rattle.std.proofs.lemmas.List.{append-nil}
use Rattle.pawk_value.specs.declared.faults.Fault.{Fault}
use Rattle.pawk_value.specs.declared.faults.Fault.TheVariants as fault
use Rattle.pawk_value.specs.Value.{Val}
use Rattle.pawk_value.specs.Conversion.{num_of}
use Rattle.pawk_array.specs.Entries.{found}
use Rattle.pawk_code.specs.declared.word.Sign.{Sign}
use Rattle.pawk_world.specs.Halts.{Halt}
use Rattle.pawk_world.specs.Halts as halt
use Rattle.pawk_world.specs.Sums.{arith_by, op_of}
use Rattle.pawk_world.specs.Worlds.{Cell, element, Request, Answer, gives, halts}
use Rattle.pawk_world.specs.Worlds as request
use Rattle.pawk_store.specs.Globals.{Globals, array_at, value_at}
use Rattle.pawk_store.specs.Globals as globals
use Rattle.pawk_admit.specs.declared.role.Role.{Role}
use Rattle.pawk_admit.specs.declared.role.Role.TheVariants.{Fixed, Adder, Setter, Reader}
use Rattle.pawk_admit.specs.Roles.{role_of_array}
use Rattle.pawk_frozen.specs.Marks.{Mark, blank, summed, last_put, created, with_amount, mark_at}
use Rattle.pawk_frozen.specs.Frozens.{Frozen, is_sum, noted, signed_amount, kept_mark, found_or_missing, missing}
use Rattle.pawk_frozen.specs.Frozens as frozen
use Rattle.pawk_store.specs.Lockstep.{array_slot, access_of, resource_of, resource_of_cell, refusal_of, state_of, RefusesIn, FirstGoesOn, SecondGoesOn}
use Rattle.pawk_store.specs.Laws.{IsFinal, RefusalsAreFinal}
use Rattle.pawk_commute.specs.Traces.{Event, Traced, events_of, traced_answer, traced, same_cell, mark_after, mark_from}
use Rattle.pawk_commute.specs.Traces as event
use Rattle.pawk_commute.specs.Settings.{Setting, role_of_cell, Permits, MayBegin}
use Rattle.pawk_commute.specs.Agreement.{IsLawful}
use Rattle.pawk_commute.specs.Commutation.{TraceBefore, TableBefore, pair_of}
use Rattle.pawk_commute.proofs.CellLaws.{IsThere, there_by_role, cell_same, mark_with, table_with, in_table}
use Rattle.pawk_commute.proofs.AgreementLemmas.{marks_more, lawful_more}

-- ---- the store

-- a store never clashes
abbrev pub no_clash : Halt → Bool
no_clash (halt.fault f) = true
no_clash halt.clash = false
no_clash halt.next = true
no_clash halt.next_file = true
no_clash (halt.exit n) = true

pub trace_here : (s : Traced) → TraceBefore s s
trace_here s = ([], sym (append-nil s.trace))

pub answer_on : {X : Type 0} (trace more : List Event) (g : Globals) (a : Answer Globals X) → TraceBefore (record { globals = g; trace = trace }) (state_of (traced_answer trace more a))
answer_on trace more g (gives x h) = (more, refl)
answer_on trace more g (halts w h) = ([], sym (append-nil trace))

sum_clean : (trace more : List Event) (c : Cell) (r : Result ℤ Fault) (g : Globals) → RefusesIn (λ h. no_clash h ≡ true) (refusal_of (traced_answer trace more (globals.with_sum c r g)))
sum_clean trace more c (Ok z) g = tt
sum_clean trace more c (Err f) g = refl

pub store_clean : (q : Request) (s : Traced) → RefusesIn (λ h. no_clash h ≡ true) (refusal_of ((traced globals.calls).ask q s))
store_clean (request.read n key) s = tt
store_clean (request.old n key) s = tt
store_clean (request.write c v) s = tt
store_clean (request.add sign c y) s = sum_clean s.trace (events_of (request.add sign c y) s.globals) c (arith_by (op_of sign) (num_of (value_at c s.globals)) y) s.globals
store_clean (request.test n key) s = tt
store_clean (request.remove n key) s = tt
store_clean (request.clear n) s = tt
store_clean (request.keys n) s = tt

abbrev pub store_goes_on : (i : Setting) → FirstGoesOn (pair_of i)
store_goes_on i = record {
  here = trace_here;
  then = λ s t u h k. (h.0 ++ k.0, k.1 ∙ ap (λ x. x ++ k.0) h.1 ∙ append_assoc s.trace h.0 k.0);
  ask = λ q may s. answer_on s.trace (events_of q s.globals) s.globals (globals.calls.ask q s.globals);
  ends = no_clash;
  at_fault = λ f. refl;
  at_next = refl;
  at_next_file = λ may. refl;
  at_exit = λ n. refl;
  refuses = λ q may s. store_clean q s;
}

sum_final : (trace more : List Event) (c : Cell) (r : Result ℤ Fault) (g : Globals) → IsFinal (refusal_of (traced_answer trace more (globals.with_sum c r g)))
sum_final trace more c (Ok z) g = tt
sum_final trace more c (Err f) g = tt

pub store_final : RefusalsAreFinal (traced globals.calls)
store_final (request.read n key) s = tt
store_final (request.old n key) s = tt
store_final (request.write c v) s = tt
store_final (request.add sign c y) s = sum_final s.trace (events_of (request.add sign c y) s.globals) c (arith_by (op_of sign) (num_of (value_at c s.globals)) y) s.globals
store_final (request.test n key) s = tt
store_final (request.remove n key) s = tt
store_final (request.clear n) s = tt
store_final (request.keys n) s = tt

-- ---- the chunk

-- one amount more, at each cell
pub added_mark : (c : Cell) (w : ℤ) (mark : Cell → Mark) (other : Cell) →
    mark_after other (event.added c w) (mark other) ≡ (if same_cell other c then with_amount w (mark c) else mark other)
added_mark c w mark other = by (same_cell other c) refl
  where
    by : (b : Bool) → same_cell other c ≡ b → (if b then with_amount w (mark other) else mark other) ≡ (if b then with_amount w (mark c) else mark other)
    by true e = ap (λ x. with_amount w (mark x)) (cell_same other c e)
    by false e = refl

module _ (i : Setting) where
  pub here : (t : Frozen) → TableBefore i t t
  here t is = (is, ([], (λ c. refl, tt)))

  noted_on : (t : Frozen) (c : Cell) (mk : Mark) (e : Event) → IsThere (resource_of_cell c) i.fixed → IsLawful i.roles e →
      ((other : Cell) → mark_after other e (mark_at other t.table) ≡ (if same_cell other c then mk else mark_at other t.table)) →
      TableBefore i t (noted c mk t)
  noted_on t c mk e there lawful marks is = (
    (is.0, table_with c mk t.table i.fixed is.1),
    (e ∷ [], (λ other. mark_with c mk other t.table (in_table c t.table i.fixed is.1 there) ∙ sym (marks other), (lawful, tt))),
  )

  added_on : (t : Frozen) (c : Cell) (w : ℤ) → role_of_cell i.roles c ≡ Adder → IsThere (resource_of_cell c) i.fixed → TableBefore i t (noted c (with_amount w (mark_at c t.table)) t)
  added_on t c w role there = noted_on t c (with_amount w (mark_at c t.table)) (event.added c w) there role (added_mark c w (λ x. mark_at x t.table))

  kept_on : (t : Frozen) (c : Cell) (mk : Mark) → TableBefore i t (noted c mk t) → TableBefore i t (state_of (kept_mark c mk t))
  kept_on t c blank h = here t
  kept_on t c (summed total least greatest) h = by (is_sum total)
    where
      by : (b : Bool) → TableBefore i t (state_of (if b then gives (tt {0}) (noted c (summed total least greatest) t) else halts (halt.fault fault.Overflow) t))
      by true = h
      by false = here t
  kept_on t c (last_put v) h = here t
  kept_on t c created h = here t

  sum_on : (t : Frozen) (c : Cell) (sign : Sign) (y : Result ℤ Fault) → role_of_cell i.roles c ≡ Adder → IsThere (resource_of_cell c) i.fixed → TableBefore i t (state_of (frozen.with_sum c sign y t))
  sum_on t c sign (Err f) role there = here t
  sum_on t c sign (Ok b) role there = kept_on t c (with_amount (signed_amount sign b) (mark_at c t.table)) (added_on t c (signed_amount sign b) role there)

  missing_on : MayBegin i → (t : Frozen) (n : ℕ) (key : List ℕ) (r : Role) → role_of_array t.roles n ≡ r → TableBefore i t (state_of (missing n key r t))
  missing_on begin t n key Fixed e = here t
  missing_on begin t n key Adder e = here t
  missing_on begin t n key Setter e = here t
  missing_on begin t n key Reader e = λ is.
      let role : role_of_array i.roles n ≡ Reader = ap (λ r. role_of_array r n) (sym is.0) ∙ e in
      noted_on t (element n key) created (event.created n key) (there_by_role i.roles i.fixed begin.role_slots (array_slot n) (λ e. absurd (cc))) role (λ other. refl) is

  read_on : MayBegin i → (t : Frozen) (n : ℕ) (key : List ℕ) (o : Option Val) → TableBefore i t (state_of (found_or_missing n key o t))
  read_on begin t n key (Some v) = here t
  read_on begin t n key None = missing_on begin t n key (role_of_array t.roles n) refl

  pub table_on : MayBegin i → (q : Request) → Permits i (access_of q) (resource_of q) → (t : Frozen) → TableBefore i t (state_of (frozen.answer q t))
  table_on begin (request.read n key) may t = read_on begin t n key (found key (array_at t.fixed n))
  table_on begin (request.old n key) may t = absurd may
  table_on begin (request.write c v) may t = noted_on t c (last_put v) (event.put c v) (there_by_role i.roles i.fixed begin.role_slots (resource_of_cell c) (λ e. absurd (cc))) may (λ other. refl)
  table_on begin (request.add sign c y) may t = sum_on t c sign y may (there_by_role i.roles i.fixed begin.role_slots (resource_of_cell c) (λ e. absurd (cc)))
  table_on begin (request.test n key) may t = here t
  table_on begin (request.remove n key) may t = absurd may
  table_on begin (request.clear n) may t = absurd may
  table_on begin (request.keys n) may t = here t

  pub any_refusal : (r : Option (Halt × Frozen)) → RefusesIn (λ h. true ≡ true) r
  any_refusal None = tt
  any_refusal (Some r) = refl

  abbrev pub chunk_goes_on : MayBegin i → SecondGoesOn (pair_of i)
  chunk_goes_on begin = record {
    here = here;
    then = λ s t u h k is.
        let a = h is in
        let b = k a.0 in (
          b.0,
          (a.1.0 ++ b.1.0, (λ c. b.1.1.0 c ∙ ap (λ m. mark_from m c b.1.0) (a.1.1.0 c) ∙ sym (marks_more (mark_at c s.table) c a.1.0 b.1.0), lawful_more i.roles a.1.0 b.1.0 a.1.1.1 b.1.1.1)),
        );
    ask = table_on begin;
    ends = λ h. true;
    at_fault = λ f. refl;
    at_next = refl;
    at_next_file = λ may. refl;
    at_exit = λ n. refl;
    refuses = λ q may t. any_refusal (refusal_of (frozen.answer q t));
  }

missing_final : (t : Frozen) (n : ℕ) (key : List ℕ) (r : Role) → IsFinal (refusal_of (missing n key r t))
missing_final t n key Fixed = tt
missing_final t n key Adder = tt
missing_final t n key Setter = tt
missing_final t n key Reader = tt

read_final : (t : Frozen) (n : ℕ) (key : List ℕ) (o : Option Val) → IsFinal (refusal_of (found_or_missing n key o t))
read_final t n key (Some v) = tt
read_final t n key None = missing_final t n key (role_of_array t.roles n)

kept_final : (t : Frozen) (c : Cell) (mk : Mark) → IsFinal (refusal_of (kept_mark c mk t))
kept_final t c blank = tt
kept_final t c (summed total least greatest) = by (is_sum total)
  where
    by : (b : Bool) → IsFinal (refusal_of (if b then gives (tt {0}) (noted c (summed total least greatest) t) else halts (halt.fault fault.Overflow) t))
    by true = tt
    by false = tt
kept_final t c (last_put v) = tt
kept_final t c created = tt

pub chunk_final : RefusalsAreFinal frozen.calls
chunk_final (request.read n key) t = read_final t n key (found key (array_at t.fixed n))
chunk_final (request.old n key) t = tt
chunk_final (request.write c v) t = tt
chunk_final (request.add sign c (Err f)) t = tt
chunk_final (request.add sign c (Ok b)) t = kept_final t c (with_amount (signed_amount sign b) (mark_at c t.table))
chunk_final (request.test n key) t = tt
chunk_final (request.remove n key) t = tt
chunk_final (request.clear n) t = tt
chunk_final (request.keys n) t = tt
