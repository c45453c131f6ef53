-- From a parting to the event.
use Rattle.std.proofs.Common.{◌≡◌, ℕ, ℤ, List, [], ◌++◌, None, Bool, true, false, if◌then◌else◌, Result, Ok, Err, refl, ap, sym, ◌∙◌, subst, inl, inr, ⊎_elim}
use Rattle.std.proofs.lemmas.List.{append-nil}
use Rattle.std.specs.Prelude.{◌⊎◌}
use Rattle.pawk_value.specs.declared.faults.Fault.{Fault}
use Rattle.pawk_value.specs.declared.faults.Fault.TheVariants as fault
use Rattle.pawk_value.specs.Conversion.{num_of}
use Rattle.pawk_array.specs.Entries.{found, value_of}
use Rattle.pawk_code.specs.declared.word.Sign.{Sign}
use Rattle.pawk_world.specs.Halts as halt
use Rattle.pawk_world.specs.Sums.{arith_by, op_of}
use Rattle.pawk_world.specs.Worlds.{Cell, element, Request, Answer, gives, halts}
use Rattle.pawk_world.specs.Worlds as request
use Rattle.pawk_store.specs.Globals.{Globals, array_at, value_at, with_value, with_cell}
use Rattle.pawk_store.specs.Globals as globals
use Rattle.pawk_store.specs.RecordStates.{RecordState}
use Rattle.pawk_admit.specs.declared.role.Role.TheVariants.{Fixed, Adder}
use Rattle.pawk_admit.specs.Roles.{role_of_array}
use Rattle.pawk_frozen.specs.Marks.{Mark, blank, summed, last_put, created, with_amount, mark_at}
use Rattle.pawk_frozen.specs.Frozens.{Frozen, noted, signed_amount, kept_mark, found_or_missing, missing}
use Rattle.pawk_frozen.specs.Frozens as frozen
use Rattle.pawk_store.specs.Records.{Left, clash, End}
use Rattle.pawk_store.specs.Lockstep.{access_of, resource_of, resource_of_cell, refusal_of, state_of}
use Rattle.pawk_store.specs.Laws.{SameEnd, EndReaches, EndsInStep, LeftBy}
use Rattle.pawk_commute.specs.Traces.{Traced, creations, additions, traced_answer, traced, mark_from}
use Rattle.pawk_commute.specs.Settings.{Setting, role_of_cell, Permits, MayBegin}
use Rattle.pawk_commute.specs.Agreement.{Alike}
use Rattle.pawk_commute.specs.Commutation.{TraceBefore, TableBefore, Parts, pair_of, store_opening, chunk_opening, IsOwnFault, has_sum, MissedKey, FaultsToo, GoesPast, Commuted, no_event, amount_fault, missed_key, add_fault}
use Rattle.pawk_commute.proofs.CellLaws.{IsThere, there_by_role, mark_with, table_with, in_table}
use Rattle.pawk_commute.proofs.AgreementLemmas.{begins_alike}
use Rattle.pawk_commute.proofs.AnswerLemmas.{kept}
use Rattle.pawk_commute.proofs.OrderLemmas.{no_clash, added_mark}

pub opens_alike : (i : Setting) (state : RecordState) → MayBegin i → SameEnd (pair_of i) (store_opening i state) (chunk_opening i state)
opens_alike i state begin = record { worlds = begins_alike i begin; states = refl; outputs = sym (append-nil i.written); lefts = refl }

module _ (i : Setting) (s : Traced) (t : Frozen) (state : RecordState) (out : List ℕ) (store : End Traced) (chunk : End Frozen) (h : Alike i s t) where
  abbrev StoreReaches : {X : Type 0} → Answer Traced X → Type 0
  StoreReaches a = EndReaches TraceBefore (refusal_of a) (state_of a) state (i.written ++ out) store

  abbrev ChunkReaches : {X : Type 0} → Answer Frozen X → Type 0
  ChunkReaches b = EndReaches (TableBefore i) (refusal_of b) (state_of b) state out chunk

  -- ---- an element that is missing

  key_case : (n : ℕ) (key : List ℕ) → Parts i (request.read n key) s t → StoreReaches ((traced globals.calls).ask (request.read n key) s) → ChunkReaches (frozen.answer (request.read n key) t) → MissedKey i store chunk
  key_case n key parts first second =
      let first' = subst (λ o. StoreReaches (traced_answer s.trace (creations n key o) (gives (value_of o) (with_value (element n key) (value_of o) s.globals)))) parts.1 first in
      let lacks : found key (array_at t.fixed n) ≡ None = ap (λ g. found key (array_at g n)) h.fixed ∙ parts.2 in
      let role : role_of_array t.roles n ≡ Fixed = ap (λ r. role_of_array r n) h.roles ∙ parts.0 in
      let second' = subst (λ o. ChunkReaches (found_or_missing n key o t)) lacks second in
      record {
        array = n;
        key = key;
        first = s;
        second = t;
        state = state;
        output = out;
        alike = h;
        role = parts.0;
        lacks = parts.1;
        chunk_ends = subst (λ r. ChunkReaches (missing n key r t)) role second';
        store_trace = first'.0;
        store_output = first'.1;
      }

  -- ---- a fault of an add

  refused : (c : Cell) (w : ℤ) (m : Mark) → has_sum (with_amount w m) ≡ false → kept_mark c (with_amount w m) t ≡ halts (halt.fault fault.Overflow) t
  refused c w blank e = ap (λ b. if b then gives tt (noted c (with_amount w blank) t) else halts (halt.fault fault.Overflow) t) e
  refused c w (summed total least greatest) e = ap (λ b. if b then gives tt (noted c (with_amount w (summed total least greatest)) t) else halts (halt.fault fault.Overflow) t) e
  refused c w (last_put v) e = ap (λ b. if b then gives tt (noted c (with_amount w (last_put v)) t) else halts (halt.fault fault.Overflow) t) e
  refused c w created e = ap (λ b. if b then gives tt (noted c (with_amount w created) t) else halts (halt.fault fault.Overflow) t) e

  module _ (c : Cell) (sign : Sign) (role : role_of_cell i.roles c ≡ Adder) (there : IsThere (resource_of_cell c) i.fixed) where
    goes_past : (y : ℤ) → ChunkReaches (gives (tt {0}) (noted c (with_amount (signed_amount sign y) (mark_at c t.table)) t)) → GoesPast i c sign (Ok y) t state out chunk
    goes_past y e =
        let w = signed_amount sign y in
        let mk = with_amount w (mark_at c t.table) in
        let k = e.0 (h.roles, table_with c mk t.table i.fixed h.slots) in (
          y,
          refl,
          (
            k.1.0,
            (
              λ other.
                  k.1.1.0 other
                  ∙ ap (λ m. mark_from m other k.1.0) (mark_with c mk other t.table (in_table c t.table i.fixed h.slots there) ∙ sym (added_mark c w (λ x. mark_at x t.table) other)),
              (role, k.1.1.1),
            ),
          ),
          e.1,
        )

    sum_case : (y : ℤ) (b : Bool) → has_sum (with_amount (signed_amount sign y) (mark_at c t.table)) ≡ b → ChunkReaches (kept_mark c (with_amount (signed_amount sign y) (mark_at c t.table)) t) → FaultsToo i c sign (Ok y) t state out chunk ⊎ GoesPast i c sign (Ok y) t state out chunk
    sum_case y true is e = inr (goes_past y (subst (λ a. ChunkReaches a) (kept c (with_amount (signed_amount sign y) (mark_at c t.table)) t is) e))
    sum_case y false is e = inl (fault.Overflow, subst (λ a. ChunkReaches a) (refused c (signed_amount sign y) (mark_at c t.table) is) e, inr (y, refl, is))

    chunk_case : (y : Result ℤ Fault) → ChunkReaches (frozen.with_sum c sign y t) → FaultsToo i c sign y t state out chunk ⊎ GoesPast i c sign y t state out chunk
    chunk_case (Ok y) e = sum_case y (has_sum (with_amount (signed_amount sign y) (mark_at c t.table))) refl e
    chunk_case (Err g) e = inl (g, e, inl refl)

    own_case : (y : Result ℤ Fault) (f : Fault) → IsOwnFault sign (num_of (value_at c s.globals)) y f → arith_by (op_of sign) (num_of (value_at c s.globals)) y ≡ Err f →
        StoreReaches ((traced globals.calls).ask (request.add sign c y) s) → ChunkReaches (frozen.with_sum c sign y t) → Commuted i store chunk
    own_case y f own is first second = add_fault (record {
      target = c;
      sign = sign;
      amount = y;
      why = f;
      first = s;
      second = t;
      state = state;
      output = out;
      alike = h;
      role = role;
      own = own;
      store_ends = subst (λ r. StoreReaches (traced_answer s.trace (additions sign c y) (globals.with_sum c r s.globals))) is first;
      chunk_then = chunk_case y second;
    })

    amount_case : (a : ℤ) (g f : Fault) → num_of (value_at c s.globals) ≡ Ok a →
        StoreReaches ((traced globals.calls).ask (request.add sign c (Err g)) s) → ChunkReaches (frozen.with_sum c sign (Err g) t) → Commuted i store chunk
    amount_case a g f is first second = amount_fault (record {
      target = c;
      why = g;
      first = s;
      second = t;
      state = state;
      output = out;
      alike = h;
      role = role;
      chunk_ends = second;
      store_ends = subst (λ r. StoreReaches (traced_answer s.trace [] (globals.with_sum c (arith_by (op_of sign) r (Err g)) s.globals))) is first;
    })

    same_err : {f g : Fault} → ◌≡◌ {A = Result ℤ Fault} (Err g) (Err f) → f ≡ g
    same_err e = sym (ap (λ (r : Result ℤ Fault). elim r as (λ _. Fault) [ Ok z ↦ fault.Overflow | Err x ↦ x ]) e)

    add_case : (y q : Result ℤ Fault) (f : Fault) → num_of (value_at c s.globals) ≡ q → arith_by (op_of sign) q y ≡ Err f →
        StoreReaches ((traced globals.calls).ask (request.add sign c y) s) → ChunkReaches (frozen.with_sum c sign y t) → Commuted i store chunk
    add_case y (Err g) f is e first second = own_case y f (subst (λ q. IsOwnFault sign q y f) (sym is) (same_err e)) (ap (λ q. arith_by (op_of sign) q y) is ∙ e) first second
    add_case (Err g) (Ok a) f is e first second = amount_case a g f is first second
    add_case (Ok b) (Ok a) f is e first second = own_case (Ok b) f (subst (λ q. IsOwnFault sign q (Ok b) f) (sym is) e) (ap (λ q. arith_by (op_of sign) q (Ok b)) is ∙ e) first second

  -- ---- any parting

  case_of : MayBegin i → (q : Request) → Permits i (access_of q) (resource_of q) → Parts i q s t → StoreReaches ((traced globals.calls).ask q s) → ChunkReaches (frozen.answer q t) → Commuted i store chunk
  case_of begin (request.read n key) may parts first second = missed_key (key_case n key parts first second)
  case_of begin (request.old n key) may parts first second = absurd parts
  case_of begin (request.write c v) may parts first second = absurd parts
  case_of begin (request.add sign c y) may parts first second = add_case c sign may (there_by_role i.roles i.fixed begin.role_slots (resource_of_cell c) (λ e. absurd (cc))) y (num_of (value_at c s.globals)) parts.0 refl parts.1 first second
  case_of begin (request.test n key) may parts first second = absurd parts
  case_of begin (request.remove n key) may parts first second = absurd parts
  case_of begin (request.clear n) may parts first second = absurd parts
  case_of begin (request.keys n) may parts first second = absurd parts

-- a store never clashes
unclashed : (w : Left) → LeftBy (λ h. no_clash h ≡ true) w → w ≡ clash → ⊥
unclashed w h e = absurd (let k : false ≡ true = subst (LeftBy (λ h. no_clash h ≡ true)) e h in cc)

pub commuted : (i : Setting) → MayBegin i → (store : End Traced) (chunk : End Frozen) → LeftBy (λ h. no_clash h ≡ true) store.left → EndsInStep (pair_of i) store chunk → Commuted i store chunk
commuted i begin store chunk clean = ⊎_elim
    (λ same. no_event same (λ e. unclashed store.left clean (same.lefts ∙ e)))
    (λ p.
    let a = (traced globals.calls).ask p.request p.first in
    case_of i p.first p.second p.state p.second_output store chunk p.related begin p.request p.permitted p.parts_there
    (subst (λ o. EndReaches TraceBefore (refusal_of a) (state_of a) p.state o store) p.outputs p.first_then)
    p.second_then)
