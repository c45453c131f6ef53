-- Calls of functions, one step at a time.
use Rattle.std.proofs.Common.{◌≡◌, ℕ, zero, suc, ◌-◌, ◌<◌, List, Some, None, ap, sym, ◌∙◌, refl, arith, length, take, slice_get}
use Rattle.pawk_value.specs.Value.{Val, Uninit}
use Rattle.pawk_value.specs.declared.faults.Fault.TheVariants as fault
use Rattle.pawk_world.specs.Halts.{Halt}
use Rattle.pawk_world.specs.Halts as halt
use Rattle.pawk_world.specs.Worlds.{Calls}
use Rattle.pawk_store.specs.RecordStates.{RecordState}
use Rattle.pawk_code.specs.Programs.{Function}
use Rattle.pawk_code.specs.Statements.{Stmts}
use Rattle.pawk_store.specs.Parts.{Hold, Moment, Outcome, gives, halts, Part, give, then_do, bind, tick, Entry, entry_of}
use Rattle.pawk_store.specs.Meaning.{Way, execs, call_at, run_function, run_function_at, value_of_way}

module _ {S : Type 0} (calls : Calls S) (eres : List (List ℕ)) (fs : List Function) where
  -- a call without a step for it
  pub call_no_step : (depth f : ℕ) (values : List Hold) (m : Moment S) (x : Halt) (s : S) (st : RecordState) (out : List ℕ) → tick m ≡ halts x s st out → call_at calls eres fs depth f values m ≡ halts x s st out
  unfolding call_at
  call_no_step zero f values m x s st out h = ap (λ o. then_do o (λ _ m'. halts (halt.fault fault.Depth) m'.world m'.state m'.output)) h
  call_no_step (suc d) f values m x s st out h = ap (λ o. then_do o (λ _. run_function_at calls eres (slice_get fs f) (execs calls eres (call_at calls eres fs d)) values)) h

  -- a call that is nested too deep
  pub call_too_deep : (depth f : ℕ) (values : List Hold) (m m1 : Moment S) → depth ≡ 0 → tick m ≡ gives tt m1 → call_at calls eres fs depth f values m ≡ halts (halt.fault fault.Depth) m1.world m1.state m1.output
  unfolding call_at
  call_too_deep zero f values m m1 e h = ap (λ o. then_do o (λ _ m'. halts (halt.fault fault.Depth) m'.world m'.state m'.output)) h
  call_too_deep (suc d) f values m m1 e h = absurd (omega arith)

  -- a call of a function that is not there
  pub call_nothing : (depth f : ℕ) (values : List Hold) (m m1 : Moment S) → 0 < depth → tick m ≡ gives tt m1 → slice_get fs f ≡ None → call_at calls eres fs depth f values m ≡ gives Uninit m1
  unfolding call_at
  call_nothing zero f values m m1 e h none = absurd (omega arith)
  call_nothing (suc d) f values m m1 e h none =
      ap (λ o. then_do o (λ _. run_function_at calls eres (slice_get fs f) (execs calls eres (call_at calls eres fs d)) values)) h
      ∙ ap (λ g. run_function_at calls eres g (execs calls eres (call_at calls eres fs d)) values m1) none

  -- what follows the body of a function, which has this value
  abbrev pub after_call : Moment S → Val → Part S Val
  after_call m1 v after = gives v (record after { frame = m1.frame; arrays = take (length m1.arrays) after.arrays })

  value_first : (m1 : Moment S) (o : Outcome S Way) → then_do o (λ way. after_call m1 (value_of_way way)) ≡ then_do (then_do o (λ way. give (value_of_way way))) (after_call m1)
  value_first m1 (gives way after) = refl
  value_first m1 (halts x s st out) = refl

  -- a call of a function that is there
  pub call_runs : (depth f : ℕ) (values : List Hold) (fn : Function) (body : Stmts) (m m1 : Moment S) (e : Entry) → 0 < depth → tick m ≡ gives tt m1 → slice_get fs f ≡ Some fn → body ≡ fn.body → e ≡ entry_of fn.kinds values m1.arrays → call_at calls eres fs depth f values m ≡ then_do (bind (execs calls eres (call_at calls eres fs (depth - 1)) body) (λ way. give (value_of_way way)) (record m1 { frame = e.frame; arrays = e.arrays })) (after_call m1)
  unfolding call_at
  call_runs zero f values fn body m m1 e pos h some same st = absurd (omega arith)
  call_runs (suc d) f values fn body m m1 e pos h some same st =
      let back : suc d - 1 ≡ d = omega arith in
      let go : Way → Part S Val = λ way. after_call m1 (value_of_way way) in
      ap (λ o. then_do o (λ _. run_function_at calls eres (slice_get fs f) (execs calls eres (call_at calls eres fs d)) values)) h
      ∙ ap (λ g. run_function_at calls eres g (execs calls eres (call_at calls eres fs d)) values m1) some
      ∙ ap (λ xs. run_function calls eres fn.kinds (execs calls eres (call_at calls eres fs d) xs) values m1) (sym same)
      ∙ ap (λ (x : Entry). then_do (execs calls eres (call_at calls eres fs d) body (record m1 { frame = x.frame; arrays = x.arrays })) go) (sym st)
      ∙ ap (λ k. then_do (execs calls eres (call_at calls eres fs k) body (record m1 { frame = e.frame; arrays = e.arrays })) go) (sym back)
      ∙ value_first m1 (execs calls eres (call_at calls eres fs (suc d - 1)) body (record m1 { frame = e.frame; arrays = e.arrays }))
