-- Turns of loops, one step at a time.
use Rattle.std.proofs.Common.{◌≡◌, ℕ, zero, suc, ◌≤◌, List, refl, ap, sym, ◌∙◌, arith, if◌then◌else◌, Bool, Result}
use Rattle.pawk_value.specs.declared.faults.Fault.{Fault}
use Rattle.pawk_world.specs.Halts.{Halt}
use Rattle.pawk_store.specs.RecordStates.{RecordState}
use Rattle.pawk_store.specs.Parts.{Moment, gives, halts, Part, give, then_do, bind, tick, tick_at}
use Rattle.pawk_store.specs.Meaning.{Way, on, decide, after_turn, turns}

module _ {S : Type 0} where
  -- what a turn is once it has its step
  abbrev pub one_turn : Part S (Result Bool Fault) → Part S Way → Part S (Unit {0}) → ℕ → Part S Way
  one_turn check body last j =
      decide check (λ h. if h then bind body (after_turn (bind last (λ _. turns j check body last))) else give on)

  -- one turn of a loop
  pub turn_is : (k : ℕ) (check : Part S (Result Bool Fault)) (body : Part S Way) (last : Part S (Unit {0})) (m m1 : Moment S) → m.left ≤ k → tick m ≡ gives tt m1 → (j : ℕ) × (k ≡ suc j) × (turns k check body last m ≡ one_turn check body last j m1)
  turn_is zero check body last m m1 le h =
      let none : m.left ≡ 0 = omega arith in
      let stops = ap (λ n. tick_at n m) none in
      absurd (cc)
  turn_is (suc j) check body last m m1 le h =
      (j, refl, ap (λ o. then_do o (λ _. one_turn check body last j)) h)

  -- no step for a turn
  pub turn_no_step : (k : ℕ) (check : Part S (Result Bool Fault)) (body : Part S Way) (last : Part S (Unit {0})) (m : Moment S) (x : Halt) (s : S) (st : RecordState) (out : List ℕ) → m.left ≤ k → tick m ≡ halts x s st out → turns k check body last m ≡ halts x s st out
  turn_no_step zero check body last m x s st out le h =
      let none : m.left ≡ 0 = omega arith in
      let go : Unit {0} → Part S Way = λ _. give on in
      sym (ap (λ n. then_do (tick_at n m) go) none) ∙ ap (λ o. then_do o go) h
  turn_no_step (suc j) check body last m x s st out le h = ap (λ o. then_do o (λ _. one_turn check body last j)) h
