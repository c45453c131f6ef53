-- One record, and a list of records, go in step.
use Rattle.std.proofs.Common.{◌≡◌, ℕ, suc, List, [], ◌∷◌, ◌++◌, Option, Some, None, refl, ap, sym, subst, inl, inr, ⊎_elim, Bool, true, false, not, if◌then◌else◌}
use Rattle.std.specs.Prelude.{slice_set}
use Rattle.pawk_value.specs.declared.faults.Fault.{Fault}
use Rattle.pawk_value.specs.Value.{Maybe}
use Rattle.pawk_record.specs.Records.{read}
use Rattle.pawk_world.specs.Halts.{Halt}
use Rattle.pawk_world.specs.Halts as halt
use Rattle.pawk_world.specs.Worlds.{Calls}
use Rattle.pawk_store.specs.RecordStates.{RecordState, is_paragraph, with_item}
use Rattle.pawk_store.specs.Slots.{fs_slot}
use Rattle.pawk_code.specs.Expressions.{Expr}
use Rattle.pawk_code.specs.Statements.{Stmts}
use Rattle.pawk_code.specs.Programs.{Selector, always, matching, between, Rule, Function, Code}
use Rattle.pawk_input.specs.Input.{Item}
use Rattle.pawk_store.specs.Limits.{greatest_calls}
use Rattle.pawk_store.specs.Parts.{Moment, Outcome, gives, halts, Part, give}
use Rattle.pawk_store.specs.Meaning.{call_at}
use Rattle.pawk_store.specs.Records.{Left, through, next_file, exit, fault, clash, is_inside, End, end_of_halt, end_of, opening_moment, run_part, after_read, stays_inside, holds, does, reads, begins, in_range, selects, rules_from, one_record, actions}
use Rattle.pawk_store.specs.Runs.{is_skipped, after_leaving, records_from}
use Rattle.pawk_store.specs.Lockstep.{Access, writes, Resource, rule_ranges, Pair, IsPrefix, refusal_of, state_of, world_of, output_of, Reaches, SameOutcome, InStep, GoesOn, EndsBy}
use Rattle.pawk_store.specs.Allows.{LooksAt, Allows, AllowsStmts, AllowsFunctions, AllowsSelector, AllowsRules, AllowsMain, AllowsActions}
use Rattle.pawk_store.specs.Laws.{EndReaches, IsFinal, RefusalsAreFinal, LeftBy, SameEnd, EndsInStep}
use Rattle.pawk_store.proofs.Later.{prefix_here, prefix_then, Any, Order, Later}
use Rattle.pawk_store.proofs.Going.{Track, Goes, goes_bind, goes_nearby, goes_plain, goes_settle, goes_fault, goes_stated, goes_spelled, goes_as_truth, goes_if}
use Rattle.pawk_store.proofs.InExpressions.{goes_eval}
use Rattle.pawk_store.proofs.InStatements.{goes_call_at, goes_program}

-- the order of record states goes on where a record is read
abbrev pub KeepsItems : {S T : Type 0} → Track S T → Type 0
KeepsItems t = (fs : List ℕ) (s : RecordState) (i : Item) → t.order.keeps s (with_item fs i s)

module _ {S T : Type 0} {t : Track S T} where
  pub goes_after_read : (f : Option Fault) → Goes t Any (after_read f) (after_read f)
  goes_after_read None = goes_plain (tt {0})
  goes_after_read (Some f) = goes_fault Any f

  goes_stays : t.pair.permits writes rule_ranges → (n : ℕ) (inside : Bool) → Goes t Any (stays_inside n inside) (stays_inside n inside)
  goes_stays may n inside = goes_nearby Any (λ e. (true, record e { state = record e.state { ranges = slice_set e.state.ranges n inside } })) (λ e held. (tt, held, t.order.ranges may e.state (slice_set e.state.ranges n inside)))

  goes_if_at : {X : Type 0} {P : X → Type 0} (b : Bool) {p p' : Part S X} {q q' : Part T X} → Goes t P p q → Goes t P p' q' → Goes t P (λ m. if b then p m else p' m) (λ n. if b then q n else q' n)
  goes_if_at true g h = g
  goes_if_at false g h = h

module _ {S T : Type 0} {t : Track S T} (eres : List (List ℕ)) (functions : List Function) (may : AllowsFunctions t.pair.permits functions) where
  goes_holds : (e : Expr) → Allows t.pair.permits e → Goes t Any (holds t.pair.first_calls eres functions e) (holds t.pair.second_calls eres functions e)
  goes_holds e may' = goes_bind (goes_as_truth (goes_eval eres (call_at t.pair.first_calls eres functions greatest_calls) (call_at t.pair.second_calls eres functions greatest_calls) (goes_call_at eres functions may greatest_calls) e may')) (λ r _. goes_settle r)

  goes_does : (body : Stmts) → AllowsStmts t.pair.permits body → Goes t Any (does t.pair.first_calls eres functions body) (does t.pair.second_calls eres functions body)
  goes_does body may' = goes_bind (goes_program eres functions body may may' greatest_calls) (λ _ _. goes_plain (tt {0}))

  goes_reads : LooksAt t.pair.permits fs_slot → KeepsItems t → (i : Item) → Goes t Any (reads t.pair.first_calls eres functions i) (reads t.pair.second_calls eres functions i)
  goes_reads may' keeps i = goes_spelled Any fs_slot
      (λ fs m. let r = read fs (is_paragraph m.state) i.bytes in after_read r.1 (record m { state = record m.state { line = r.0; nr = suc m.state.nr; fnr = i.fnr; name = Maybe i.name } }))
      (λ fs m. let r = read fs (is_paragraph m.state) i.bytes in after_read r.1 (record m { state = record m.state { line = r.0; nr = suc m.state.nr; fnr = i.fnr; name = Maybe i.name } }))
      may'
      (λ fs. goes_bind
      (goes_nearby Any (λ e. let r = read fs (is_paragraph e.state) i.bytes in (r.1, record e { state = record e.state { line = r.0; nr = suc e.state.nr; fnr = i.fnr; name = Maybe i.name } })) (λ e held. (tt, held, keeps fs e.state i)))
      (λ f _. goes_after_read f))

  goes_begins : (n : ℕ) (p : Expr) → Allows t.pair.permits p → Goes t Any (begins t.pair.first_calls eres functions n p) (begins t.pair.second_calls eres functions n p)
  goes_begins n p may' = goes_stated Any
      (λ s m. if is_inside n s then give true m else holds t.pair.first_calls eres functions p m)
      (λ s m. if is_inside n s then give true m else holds t.pair.second_calls eres functions p m)
      (λ s. goes_if_at (is_inside n s) (goes_plain true) (goes_holds p may'))

  goes_in_range : (n : ℕ) (q : Expr) → Allows t.pair.permits q → t.pair.permits writes rule_ranges → (b : Bool) → Goes t Any (in_range t.pair.first_calls eres functions n q b) (in_range t.pair.second_calls eres functions n q b)
  goes_in_range n q may' may'' true = goes_bind (goes_holds q may') (λ ends _. goes_stays may'' n (not ends))
  goes_in_range n q may' may'' false = goes_plain false

  goes_selects : (n : ℕ) (s : Selector) → AllowsSelector t.pair.permits s → Goes t Any (selects t.pair.first_calls eres functions n s) (selects t.pair.second_calls eres functions n s)
  goes_selects n always may' = goes_plain true
  goes_selects n (matching e) may' = goes_holds e may'
  goes_selects n (between p q) may' = goes_bind (goes_begins n p may'.0) (λ b _. goes_in_range n q may'.1 may'.2 b)

  pub goes_rules : (n : ℕ) (rules : List Rule) → AllowsRules t.pair.permits rules → Goes t Any (rules_from t.pair.first_calls eres functions n rules) (rules_from t.pair.second_calls eres functions n rules)
  goes_rules n [] may' = goes_plain (tt {0})
  goes_rules n (r ∷ rs) may' =
      goes_bind (goes_bind (goes_selects n r.selector may'.0) (λ h _. goes_if h (goes_does r.body may'.1) (goes_plain (tt {0})))) (λ _ _. goes_rules (suc n) rs may'.2)

  pub goes_actions : (bodies : List Stmts) → AllowsActions t.pair.permits bodies → Goes t Any (actions t.pair.first_calls eres functions bodies) (actions t.pair.second_calls eres functions bodies)
  goes_actions [] may' = goes_plain (tt {0})
  goes_actions (a ∷ rest) may' = goes_bind (goes_does a may'.0) (λ _ _. goes_actions rest may'.1)

module _ {S T : Type 0} {t : Track S T} (eres : List (List ℕ)) (functions : List Function) (rules : List Rule) (may : AllowsMain t.pair.permits functions rules) where
  pub goes_record : KeepsItems t → (i : Item) → Goes t Any (one_record t.pair.first_calls eres functions rules i) (one_record t.pair.second_calls eres functions rules i)
  goes_record keeps i = goes_bind (goes_reads eres functions may.1 may.0 keeps i) (λ _ _. goes_rules eres functions may.1 0 rules may.2)

-- ---- the end of a part

halt_onto : {S : Type 0} (before : S → S → Type 0) (h : Halt) (s q : S) (state : RecordState) (out out' : List ℕ) → before s q × IsPrefix out out' → before s (end_of_halt h q state out').world × IsPrefix out (end_of_halt h q state out').output
halt_onto before (halt.fault f) s q state out out' h = h
halt_onto before halt.clash s q state out out' h = h
halt_onto before halt.next s q state out out' h = h
halt_onto before halt.next_file s q state out out' h = h
halt_onto before (halt.exit n) s q state out out' h = h

end_onto : {S X : Type 0} (before : S → S → Type 0) (s : S) (out : List ℕ) (o : Outcome S X) → before s (world_of o) × IsPrefix out (output_of o) → before s (end_of o).world × IsPrefix out (end_of o).output
end_onto before s out (gives x m) h = h
end_onto before s out (halts i q state out') h = halt_onto before i s q state out out' h

halt_left : {S : Type 0} (ends : Halt → Type 0) (h : Halt) (s : S) (state : RecordState) (out : List ℕ) → ends h → LeftBy ends (end_of_halt h s state out).left
halt_left ends (halt.fault f) s state out h = h
halt_left ends halt.clash s state out h = h
halt_left ends halt.next s state out h = tt
halt_left ends halt.next_file s state out h = h
halt_left ends (halt.exit n) s state out h = h

end_left : {S X : Type 0} (permits : Access → Resource → Type 0) (ends : Halt → Type 0) (before : S → S → Type 0) (order : Order permits) (P : X → Type 0) (m : Moment S) (o : Outcome S X) → Later permits ends before order P m o → LeftBy ends (end_of o).left
end_left permits ends before order P m (gives x n) l = tt
end_left permits ends before order P m (halts i q state out') l = halt_left ends i q state out' l.meets

reaches_end : {S X : Type 0} (before : S → S → Type 0) (r : Option (Halt × S)) (s : S) (state : RecordState) (out : List ℕ) (o : Outcome S X) → Reaches before r s state out o → EndReaches before r s state out (end_of o)
reaches_end before (Some r) s state out o e = ap end_of e
reaches_end before None s state out o e = end_onto before s out o e

-- ---- one world

module _ {S : Type 0} (permits : Access → Resource → Type 0) (before : S → S → Type 0) (calls : Calls S) (on : GoesOn permits before calls) where
  abbrev pub Onto : End S → End S → Type 0
  Onto e f = before e.world f.world × IsPrefix e.output f.output

  pub onto_here : (e : End S) → Onto e e
  onto_here e = (on.here e.world, prefix_here e.output)

  pub onto_then : (e f g : End S) → Onto e f → Onto f g → Onto e g
  onto_then e f g h k = (on.then e.world f.world g.world h.0 k.0, prefix_then e.output f.output g.output h.1 k.1)

  onto_if : (b : Bool) (e f g : End S) → Onto e f → Onto e g → Onto e (if b then f else g)
  onto_if true e f g h k = h
  onto_if false e f g h k = k

  after_onto : (go : Option ℕ → End S → End S) (file : ℕ) (left : Left) (e : End S) → ((skip : Option ℕ) → Onto e (go skip e)) → Onto e (after_leaving go file left e)
  after_onto go file through e h = h None
  after_onto go file next_file e h = h (Some file)
  after_onto go file (exit n) e h = onto_here e
  after_onto go file (fault f) e h = onto_here e
  after_onto go file clash e h = onto_here e

  left_if : (b : Bool) (f g : End S) → LeftBy (EndsBy on) f.left → LeftBy (EndsBy on) g.left → LeftBy (EndsBy on) (if b then f else g).left
  left_if true f g h k = h
  left_if false f g h k = k

  leaving_left : (go : Option ℕ → End S → End S) (file : ℕ) (left : Left) (e : End S) → LeftBy (EndsBy on) e.left → ((skip : Option ℕ) → LeftBy (EndsBy on) (go skip e).left) → LeftBy (EndsBy on) (after_leaving go file left e).left
  leaving_left go file through e k h = h None
  leaving_left go file next_file e k h = h (Some file)
  leaving_left go file (exit n) e k h = k
  leaving_left go file (fault f) e k h = k
  leaving_left go file clash e k h = k

  -- a refusal ends the run, or the run goes on
  reaches_after : (r : Option (Halt × S)) (s : S) (state : RecordState) (out : List ℕ) (e : End S) (go : Option ℕ → End S → End S) (file : ℕ) → IsFinal r → ((skip : Option ℕ) → Onto e (go skip e)) → EndReaches before r s state out e → EndReaches before r s state out (after_leaving go file e.left e)
  reaches_after (Some (halt.fault f, q)) s state out e go file final h is =
      subst (λ (x : End S). after_leaving go file x.left x ≡ end_of_halt (halt.fault f) q state out) (sym is) refl
  reaches_after (Some (halt.clash, q)) s state out e go file final h is =
      subst (λ (x : End S). after_leaving go file x.left x ≡ end_of_halt halt.clash q state out) (sym is) refl
  reaches_after (Some (halt.exit n, q)) s state out e go file final h is =
      subst (λ (x : End S). after_leaving go file x.left x ≡ end_of_halt (halt.exit n) q state out) (sym is) refl
  reaches_after (Some (halt.next, q)) s state out e go file final h is = absurd final
  reaches_after (Some (halt.next_file, q)) s state out e go file final h is = absurd final
  reaches_after None s state out e go file final h is =
      let k = after_onto go file e.left e h in
      (on.then s e.world (after_leaving go file e.left e).world is.0 k.0, prefix_then out e.output (after_leaving go file e.left e).output is.1 k.1)

  module _ (eres : List (List ℕ)) (code : Code) (budget : ℕ) where
    abbrev record_end : Item → End S → End S
    record_end i e = run_part (one_record calls eres code.functions code.rules i) budget e.world e.state e.output

    module _ (goes : (i : Item) (e : End S) → Onto e (record_end i e) × LeftBy (EndsBy on) (record_end i e).left) where
      pub records_onto : (items : List Item) (skip : Option ℕ) (e : End S) → Onto e (records_from calls eres code budget skip e items)
      records_onto [] skip e = onto_here e
      records_onto (i ∷ is') skip e =
          let r = record_end i e in
          let go : Option ℕ → End S → End S = λ s x. records_from calls eres code budget s x is' in
          onto_if (is_skipped skip i) e (records_from calls eres code budget skip e is') (after_leaving go i.file r.left r)
          (records_onto is' skip e)
          (onto_then e r (after_leaving go i.file r.left r) (goes i e).0 (after_onto go i.file r.left r (λ s. records_onto is' s r)))

      pub records_left : (items : List Item) (skip : Option ℕ) (e : End S) → LeftBy (EndsBy on) e.left → LeftBy (EndsBy on) (records_from calls eres code budget skip e items).left
      records_left [] skip e h = h
      records_left (i ∷ is') skip e h =
          let r = record_end i e in
          let go : Option ℕ → End S → End S = λ s x. records_from calls eres code budget s x is' in
          left_if (is_skipped skip i) (records_from calls eres code budget skip e is') (after_leaving go i.file r.left r)
          (records_left is' skip e h)
          (leaving_left go i.file r.left r (goes i e).1 (λ s. records_left is' s r (goes i e).1))

-- ---- two worlds

module _ {S T : Type 0} (w : Pair S T) where
  same_halts : (h : Halt) (s : S) (q : T) (state state' : RecordState) (out out' : List ℕ) → w.alike s q → state ≡ state' → out ≡ w.ahead ++ out' → SameEnd w (end_of_halt h s state out) (end_of_halt h q state' out')
  same_halts (halt.fault f) s q state state' out out' a e o = record { worlds = a; states = e; outputs = o; lefts = refl }
  same_halts halt.clash s q state state' out out' a e o = record { worlds = a; states = e; outputs = o; lefts = refl }
  same_halts halt.next s q state state' out out' a e o = record { worlds = a; states = e; outputs = o; lefts = refl }
  same_halts halt.next_file s q state state' out out' a e o = record { worlds = a; states = e; outputs = o; lefts = refl }
  same_halts (halt.exit n) s q state state' out out' a e o = record { worlds = a; states = ap (λ (x : RecordState). record x { status = n }) e; outputs = o; lefts = refl }

  same_ends : {X : Type 0} (o : Outcome S X) (p : Outcome T X) → SameOutcome w o p → SameEnd w (end_of o) (end_of p)
  same_ends (gives x m) (gives y n) h = record { worlds = h.1.worlds; states = h.1.states; outputs = h.1.outputs; lefts = refl }
  same_ends (halts i s state out) (halts j q state' out') h =
      subst (λ x. SameEnd w (end_of_halt i s state out) (end_of_halt x q state' out')) h.0 (same_halts i s q state state' out out' h.1 h.2 h.3)
  same_ends (gives x m) (halts j q state' out') h = absurd h
  same_ends (halts i s state out) (gives y n) h = absurd h

  in_step_ends : {X : Type 0} (o : Outcome S X) (p : Outcome T X) → InStep w o p → EndsInStep w (end_of o) (end_of p)
  in_step_ends o p = ⊎_elim
      (λ e. inl (same_ends o p e))
      (λ e. let a = w.first_calls.ask e.request e.first in let b = w.second_calls.ask e.request e.second in inr (record {
        request = e.request;
        permitted = e.permitted;
        first = e.first;
        second = e.second;
        state = e.state;
        output = e.output;
        second_output = e.second_output;
        outputs = e.outputs;
        related = e.related;
        parts_there = e.parts_there;
        first_then = reaches_end w.before (refusal_of a) (state_of a) e.state e.output o e.first_then;
        second_then = reaches_end w.before_second (refusal_of b) (state_of b) e.state e.second_output p e.second_then;
      }))

  in_step_if : (b : Bool) (e e' : End S) (f f' : End T) → EndsInStep w e f → EndsInStep w e' f' → EndsInStep w (if b then e else e') (if b then f else f')
  in_step_if true e e' f f' h k = h
  in_step_if false e e' f f' h k = k

  equal_after : (go : Option ℕ → End S → End S) (go' : Option ℕ → End T → End T) (file : ℕ) (left : Left) (e : End S) (f : End T) → SameEnd w e f → ((skip : Option ℕ) → EndsInStep w (go skip e) (go' skip f)) → EndsInStep w (after_leaving go file left e) (after_leaving go' file left f)
  equal_after go go' file through e f same h = h None
  equal_after go go' file next_file e f same h = h (Some file)
  equal_after go go' file (exit n) e f same h = inl same
  equal_after go go' file (fault x) e f same h = inl same
  equal_after go go' file clash e f same h = inl same

-- a part from an end of what came before
module _ {S T : Type 0} {t : Track S T} (budget : ℕ) {X : Type 0} {P : X → Type 0} {p : Part S X} {q : Part T X} (goes : Goes t P p q) where
  abbrev opening_of : {Q : Type 0} → End Q → Moment Q
  opening_of e = opening_moment budget e.world e.state e.output

  pub first_part : (e : End S) → Onto t.pair.permits t.pair.before t.pair.first_calls t.first e (run_part p budget e.world e.state e.output) × LeftBy (EndsBy t.first) (run_part p budget e.world e.state e.output).left
  first_part e =
      let l = goes.first (opening_of e) tt in
      let o = p (opening_of e) in
      (end_onto t.pair.before e.world e.output o (l.world, l.output), end_left t.pair.permits (EndsBy t.first) t.pair.before t.order P (opening_of e) o l)

  pub second_part : (f : End T) → Onto t.pair.permits t.pair.before_second t.pair.second_calls t.second f (run_part q budget f.world f.state f.output) × LeftBy (EndsBy t.second) (run_part q budget f.world f.state f.output).left
  second_part f =
      let l = goes.second (opening_of f) tt in
      let o = q (opening_of f) in
      (end_onto t.pair.before_second f.world f.output o (l.world, l.output), end_left t.pair.permits (EndsBy t.second) t.pair.before_second t.order P (opening_of f) o l)

  pub part_in_step : (e : End S) (f : End T) → SameEnd t.pair e f → EndsInStep t.pair (run_part p budget e.world e.state e.output) (run_part q budget f.world f.state f.output)
  part_in_step e f same =
      in_step_ends t.pair (p (opening_of e)) (q (opening_of f))
      (goes.alike (opening_of e) (opening_of f)
      (record { worlds = same.worlds; states = same.states; frames = refl; arrays = refl; outputs = same.outputs; lefts = refl }) tt)

module _ {S T : Type 0} (t : Track S T) (keeps : KeepsItems t) (final : RefusalsAreFinal t.pair.first_calls) (final' : RefusalsAreFinal t.pair.second_calls) (eres : List (List ℕ)) (code : Code) (may : AllowsMain t.pair.permits code.functions code.rules) (budget : ℕ) where
  abbrev first_record_end : Item → End S → End S
  first_record_end i e = record_end t.pair.permits t.pair.before t.pair.first_calls t.first eres code budget i e

  abbrev second_record_end : Item → End T → End T
  second_record_end i f = record_end t.pair.permits t.pair.before_second t.pair.second_calls t.second eres code budget i f

  first_goes : (i : Item) (e : End S) → Onto t.pair.permits t.pair.before t.pair.first_calls t.first e (first_record_end i e) × LeftBy (EndsBy t.first) (first_record_end i e).left
  first_goes i e = first_part budget (goes_record {t = t} eres code.functions code.rules may keeps i) e

  second_goes : (i : Item) (f : End T) → Onto t.pair.permits t.pair.before_second t.pair.second_calls t.second f (second_record_end i f) × LeftBy (EndsBy t.second) (second_record_end i f).left
  second_goes i f = second_part budget (goes_record {t = t} eres code.functions code.rules may keeps i) f

  record_in_step : (i : Item) (e : End S) (f : End T) → SameEnd t.pair e f → EndsInStep t.pair (first_record_end i e) (second_record_end i f)
  record_in_step i e f same = part_in_step budget (goes_record {t = t} eres code.functions code.rules may keeps i) e f same

  -- how both go on after a record
  after_in_step : (go : Option ℕ → End S → End S) (go' : Option ℕ → End T → End T) (file : ℕ) (e : End S) (f : End T) → ((skip : Option ℕ) → Onto t.pair.permits t.pair.before t.pair.first_calls t.first e (go skip e)) → ((skip : Option ℕ) → Onto t.pair.permits t.pair.before_second t.pair.second_calls t.second f (go' skip f)) → ((skip : Option ℕ) → SameEnd t.pair e f → EndsInStep t.pair (go skip e) (go' skip f)) → EndsInStep t.pair e f → EndsInStep t.pair (after_leaving go file e.left e) (after_leaving go' file f.left f)
  after_in_step go go' file e f onto onto' h = ⊎_elim
      (λ k. subst (λ x. EndsInStep t.pair (after_leaving go file e.left e) (after_leaving go' file x f)) k.lefts (equal_after t.pair go go' file e.left e f k (λ skip. h skip k)))
      (λ k. let a = t.pair.first_calls.ask k.request k.first in let b = t.pair.second_calls.ask k.request k.second in inr (record {
        request = k.request;
        permitted = k.permitted;
        first = k.first;
        second = k.second;
        state = k.state;
        output = k.output;
        second_output = k.second_output;
        outputs = k.outputs;
        related = k.related;
        parts_there = k.parts_there;
        first_then = reaches_after t.pair.permits t.pair.before t.pair.first_calls t.first (refusal_of a) (state_of a) k.state k.output e go file (final k.request k.first) onto k.first_then;
        second_then = reaches_after t.pair.permits t.pair.before_second t.pair.second_calls t.second (refusal_of b) (state_of b) k.state k.second_output f go' file (final' k.request k.second) onto' k.second_then;
      }))

  pub records_in_step : (items : List Item) (skip : Option ℕ) (e : End S) (f : End T) → SameEnd t.pair e f → EndsInStep t.pair (records_from t.pair.first_calls eres code budget skip e items) (records_from t.pair.second_calls eres code budget skip f items)
  records_in_step [] skip e f same = inl same
  records_in_step (i ∷ is') skip e f same =
      let r = first_record_end i e in
      let r' = second_record_end i f in
      let go : Option ℕ → End S → End S = λ s x. records_from t.pair.first_calls eres code budget s x is' in
      let go' : Option ℕ → End T → End T = λ s x. records_from t.pair.second_calls eres code budget s x is' in
      in_step_if t.pair (is_skipped skip i)
      (records_from t.pair.first_calls eres code budget skip e is') (after_leaving go i.file r.left r)
      (records_from t.pair.second_calls eres code budget skip f is') (after_leaving go' i.file r'.left r')
      (records_in_step is' skip e f same)
      (after_in_step go go' i.file r r'
      (λ s. records_onto t.pair.permits t.pair.before t.pair.first_calls t.first eres code budget first_goes is' s r)
      (λ s. records_onto t.pair.permits t.pair.before_second t.pair.second_calls t.second eres code budget second_goes is' s r')
      (λ s k. records_in_step is' s r r' k)
      (record_in_step i e f same))

  pub first_left : (items : List Item) (skip : Option ℕ) (e : End S) → LeftBy (EndsBy t.first) e.left → LeftBy (EndsBy t.first) (records_from t.pair.first_calls eres code budget skip e items).left
  first_left items skip e h = records_left t.pair.permits t.pair.before t.pair.first_calls t.first eres code budget first_goes items skip e h

  pub second_left : (items : List Item) (skip : Option ℕ) (f : End T) → LeftBy (EndsBy t.second) f.left → LeftBy (EndsBy t.second) (records_from t.pair.second_calls eres code budget skip f items).left
  second_left items skip f h = records_left t.pair.permits t.pair.before_second t.pair.second_calls t.second eres code budget second_goes items skip f h
