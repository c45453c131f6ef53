-- One chunk beside its records in order, and all chunks by induction.
use Rattle.std.proofs.Common.{◌≡◌, ℕ, zero, suc, ◌+◌, ◌<◌, List, [], ◌∷◌, ◌++◌, length, None, Bool, true, false, if◌then◌else◌, Result, Ok, Err, refl, ap, sym, ◌∙◌, subst, inl, inr, ⊎_elim, arith}
use Rattle.std.proofs.lemmas.List.{append-nil}
use Rattle.std.proofs.lemmas.List.Elements.{Contains-append_left, Contains-append_right, Contains-append_cases}
use Rattle.std.specs.Prelude.{◌⊎◌, All, Contains, MatchResult, slice_index_or}
use Rattle.pawk_input.specs.Input.{Item}
use Rattle.pawk_store.specs.Globals.{Globals, calls}
use Rattle.pawk_store.specs.RecordStates.{RecordState}
use Rattle.pawk_admit.specs.declared.role.Role.TheVariants.{Fixed, Reader}
use Rattle.pawk_admit.specs.Roles.{Roles}
use Rattle.pawk_frozen.specs.Frozens.{Frozen}
use Rattle.pawk_frozen.specs.Frozens as frozen
use Rattle.pawk_store.specs.Records.{Left, through, next_file, exit, fault, clash, End}
use Rattle.pawk_store.specs.Runs.{records_from}
use Rattle.pawk_store.specs.Laws.{LeftBy, SameEnd}
use Rattle.pawk_store.specs.Steady.{StaysInFile, RecordsKeep, RecordsKeepLaw, onward, RecordsFollowLaw, AreSameButRecord, ReadsAnewLaw}
use Rattle.pawk_commute.specs.Traces.{Event, created, Traced, traced}
use Rattle.pawk_commute.specs.TracedRuns.{plain, TracedLaw, with_trace_before, TraceIsAppendedLaw}
use Rattle.pawk_commute.specs.Settings.{PermitsFor, MayBegin}
use Rattle.pawk_commute.specs.Commutation.{pair_of, store_opening, chunk_opening, Commuted, no_event, amount_fault, missed_key, add_fault, Commutation, StartsAgain}
use Rattle.pawk_commute.specs.Agreement.{IsLawful, AreLawful}
use Rattle.pawk_commute.specs.Merging.{IsLeftWell, MergeTells}
use Rattle.pawk_commute.proofs.OrderLemmas.{store_final}
use Rattle.pawk_merge.specs.JoinLaws.{OneJoinLaw, TakesLaw}
use Rattle.pawk_merge.specs.Tables.{all_take, join_table}
use Rattle.pawk_merge.specs.Merges.{Chunk, Stop, at_cell, after_leaving, merge}
use Rattle.pawk_merge_law.specs.Phases.{Phase, MayRun, in_order, traced_opening, in_order_traced, IsFault, CreatesElement, FaultsOrCreates}
use Rattle.pawk_merge_law.specs.ChunkedRuns.{chunk_end, leavings, Ran, HasRecord, all_of}
use Rattle.pawk_merge_law.proofs.JoinLemmas.{globals_joined, table_taken, cells_pass}
use Rattle.pawk_merge_law.proofs.OpeningLemmas.{setting, begins_with, steady, state_at, state_after_items}

-- the laws that the induction uses
pub record Laws (p : Phase) : Type 0 where
  pub keep : RecordsKeepLaw (PermitsFor p.code p.roles) (traced calls)
  pub follow : RecordsFollowLaw (PermitsFor p.code p.roles) (traced calls)
  pub anew : ReadsAnewLaw (traced calls)
  pub anew_chunk : ReadsAnewLaw frozen.calls
  pub commute : Commutation
  pub again : StartsAgain
  pub tell : MergeTells
  pub appended : TraceIsAppendedLaw
  pub one_join : OneJoinLaw
  pub takes_law : TakesLaw

-- a fault, or the creation of an element of an array that is no reader array
abbrev pub IsBad : Roles → End Traced → Type 0
IsBad roles w = IsFault w.left ⊎ CreatesElement roles w.world.trace

-- a merge gives this end where it is not bad, or stops where it is
abbrev pub Meets : Roles → End Traced → Result (End Globals) Stop → Type 0
Meets roles w r = MatchResult r (λ e. (plain w ≡ e) × ¬ IsBad roles w) (λ s. IsBad roles w)

lawful_at : (roles : Roles) (es : List Event) (k : ℕ) (d : Event) → k < length es → AreLawful roles es → IsLawful roles (slice_index_or es k d)
lawful_at roles [] k d within h = absurd (omega (arith, within))
lawful_at roles (e ∷ es) zero d within h = h.0
lawful_at roles (e ∷ es) (suc k) d within h = lawful_at roles es k d (omega (arith, within)) h.1

-- lawful events create elements of reader arrays alone
no_creation : (roles : Roles) (es : List Event) → AreLawful roles es → ¬ CreatesElement roles es
no_creation roles es h k = k.2 (subst (IsLawful roles) k.3.2 (lawful_at roles es k.3.0 (created k.0 k.1) k.3.1 h))

not_bad : (roles : Roles) (w : End Traced) → ¬ IsFault w.left → AreLawful roles w.world.trace → ¬ IsBad roles w
not_bad roles w stays lawful bad = ⊎_elim stays (no_creation roles w.world.trace lawful) bad

-- how a merge goes on with a chunk that was left so, where each cell takes what was noted or not
abbrev merge_on : Bool → Left → List Chunk → End Globals → Result (End Globals) Stop
merge_on b left cs f = if b then after_leaving left (λ x. merge cs x) f else Err at_cell

single : (e : Event) → Contains (e ∷ []) e
single e = (zero, omega (arith), refl)

first_has : (iss : List (List Item)) → All HasRecord ([] ∷ iss) → ⊥
first_has iss each = each zero [] (omega (arith))

rest_have : (is : List Item) (iss : List (List Item)) → All HasRecord (is ∷ iss) → All HasRecord iss
rest_have is iss each = λ k d within. each (suc k) d (omega (arith, within))

module _ (p : Phase) (may : MayRun p) (law : Laws p) where
  abbrev run : End Traced → List Item → End Traced
  run e items = records_from (traced calls) p.eres p.code p.budget None e items

  abbrev store_at : RecordState → Globals → List ℕ → End Traced
  store_at state g out = store_opening (setting p g out) state

  -- ---- records after records

  same_opening : (x : End Traced) → x.left ≡ through → x ≡ with_trace_before x.world.trace (store_at x.state x.world.globals x.output)
  same_opening x on = λ j. record { world = record { globals = x.world.globals; trace = sym (append-nil x.world.trace) j }; state = x.state; output = x.output; left = on j }

  resumed : (x : End Traced) (rest : List Item) → x.left ≡ through → run x rest ≡ with_trace_before x.world.trace (run (store_at x.state x.world.globals x.output) rest)
  resumed x rest on =
      ap (λ e. run e rest) (same_opening x on)
      ∙ law.appended p.eres p.code p.budget None rest x.world.trace (store_at x.state x.world.globals x.output)

  meets_longer : (before : List Event) (v : End Traced) (r : Result (End Globals) Stop) → AreLawful p.roles before → Meets p.roles v r → Meets p.roles (with_trace_before before v) r
  meets_longer before v (Ok e) lawful h = (
    h.0,
    λ bad. ⊎_elim (λ k. h.1 (inl k))
        (λ k. ⊎_elim (λ there. no_creation p.roles before lawful (k.0, k.1, k.2, there)) (λ there. h.1 (inr (k.0, k.1, k.2, there)))
        (Contains-append_cases before v.world.trace (created k.0 k.1) k.3)) bad,
  )
  meets_longer before v (Err s) lawful h = ⊎_elim (λ k. inl k) (λ k. inr (k.0, k.1, k.2, Contains-append_right before v.world.trace (created k.0 k.1) k.3)) h

  bad_onward : (x : End Traced) (rest : List Item) (left : Left) → x.left ≡ left → IsBad p.roles x → IsBad p.roles (onward (λ e. run e rest) left x)
  bad_onward x rest through on h = ⊎_elim
      (λ k. absurd (subst IsFault on k))
      (λ k. inr (subst (λ (w : End Traced). CreatesElement p.roles w.world.trace) (sym (resumed x rest on))
      (k.0, k.1, k.2, Contains-append_left x.world.trace (run (store_at x.state x.world.globals x.output) rest).world.trace (created k.0 k.1) k.3)))
      h
  bad_onward x rest next_file on h = h
  bad_onward x rest (exit n) on h = h
  bad_onward x rest (fault f) on h = h
  bad_onward x rest clash on h = h

  -- ---- one chunk

  -- where the records are bad, no cells that pass belong to a chunk that was left well
  stops : (w : End Traced) → IsBad p.roles w → (b : Bool) (left : Left) (cs : List Chunk) (f : End Globals) → (IsLeftWell left → b ≡ true → ⊥) → Meets p.roles w (merge_on b left cs f)
  stops w h false left cs f never = h
  stops w h true through cs f never = absurd (never tt refl)
  stops w h true next_file cs f never = h
  stops w h true (exit n) cs f never = absurd (never tt refl)
  stops w h true (fault g) cs f never = h
  stops w h true clash cs f never = h

  -- where nothing parted them, the merge goes on as the records do
  goes : (x : End Traced) (rest : List Item) (cs : List Chunk) (left : Left) → x.left ≡ left → (left ≡ clash → ⊥) → LeftBy StaysInFile left → AreLawful p.roles x.world.trace → (x.left ≡ through → Meets p.roles (run x rest) (merge cs (plain x))) → Meets p.roles (onward (λ e. run e rest) left x) (after_leaving left (λ f. merge cs f) (plain x))
  goes x rest cs through on clean stay lawful next = next on
  goes x rest cs next_file on clean stay lawful next = absurd stay
  goes x rest cs (exit n) on clean stay lawful next = (refl, not_bad p.roles x (subst IsFault on) lawful)
  goes x rest cs (fault f) on clean stay lawful next = inl (subst IsFault (sym on) tt)
  goes x rest cs clash on clean stay lawful next = absurd (clean refl)

  module _ (nr : ℕ) (g : Globals) (out : List ℕ) (begin : MayBegin (setting p g out)) (i : Item) (is : List Item) where
    abbrev x : End Traced
    x = run (store_at (state_at p nr) g out) (i ∷ is)

    abbrev y : End Frozen
    y = chunk_end p (state_at p nr) (i ∷ is)

    abbrev joined : End Globals
    joined = record { world = join_table y.world.table g; state = y.state; output = out ++ y.output; left = y.left }

    kept : RecordsKeep (traced calls) p.eres p.code p.budget (store_at (state_at p nr) g out) (i ∷ is)
    kept = law.keep (steady p) store_final p.eres p.code may.allows p.budget (i ∷ is) (store_at (state_at p nr) g out) refl

    same_joined : SameEnd (pair_of (setting p g out)) x y → plain x ≡ joined
    same_joined same =
        let globals = globals_joined (setting p g out) begin x.world y.world same.worlds law.one_join in
        λ j. record { world = globals j; state = same.states j; output = same.outputs j; left = same.lefts j }

    chunk_meets : (rest : List Item) (cs : List Chunk) → (SameEnd (pair_of (setting p g out)) x y → x.left ≡ through → Meets p.roles (run x rest) (merge cs (plain x))) → Commuted (setting p g out) x y → Meets p.roles (onward (λ e. run e rest) x.left x) (merge_on (all_take y.world.table g) y.left cs joined)
    chunk_meets rest cs next (no_event same clean) =
        let w = onward (λ e. run e rest) x.left x in
        subst (λ b. Meets p.roles w (merge_on b y.left cs joined)) (sym (table_taken (setting p g out) begin x.world y.world same.worlds law.takes_law))
        (subst (λ (z : End Globals). Meets p.roles w (after_leaving z.left (λ f. merge cs f) z)) (same_joined same)
        (goes x rest cs x.left refl (λ e. clean (sym same.lefts ∙ e)) kept.in_file same.worlds.lawful (next same)))
    chunk_meets rest cs next (amount_fault k) =
        stops (onward (λ e. run e rest) x.left x)
        (bad_onward x rest x.left refl (inl (subst (λ (e : End Traced). IsFault e.left) (sym k.store_ends) tt)))
        (all_take y.world.table g) y.left cs joined
        (λ well b. subst IsLeftWell (ap (λ e. e.left) k.chunk_ends) well)
    chunk_meets rest cs next (missed_key k) =
        let e = created k.array k.key in
        let there : Contains x.world.trace e =
        subst (λ es. Contains es e) (sym k.store_trace.1)
        (Contains-append_left (k.first.trace ++ e ∷ []) k.store_trace.0 e (Contains-append_right k.first.trace (e ∷ []) e (single e))) in
        stops (onward (λ e. run e rest) x.left x)
        (bad_onward x rest x.left refl (inr (k.array, k.key, (λ r. let bad : Fixed ≡ Reader = sym k.role ∙ r in absurd cc), there)))
        (all_take y.world.table g) y.left cs joined
        (λ well b. subst IsLeftWell (ap (λ e. e.left) k.chunk_ends) well)
    chunk_meets rest cs next (add_fault k) =
        stops (onward (λ e. run e rest) x.left x)
        (bad_onward x rest x.left refl (inl (subst (λ (e : End Traced). IsFault e.left) (sym k.store_ends) tt)))
        (all_take y.world.table g) y.left cs joined
        (λ well b. (law.tell (setting p g out) x y).fails k well (cells_pass (setting p g out) y.world law.takes_law b k.target))

  -- ---- all chunks

  pub chunks_meet : (chunks : List (List Item)) (told : List Chunk) (nr : ℕ) (g : Globals) (state : RecordState) (out : List ℕ) → MayBegin (setting p g out) → AreSameButRecord (state_at p nr) state → All HasRecord chunks → Ran p nr chunks told → Meets p.roles (run (store_at state g out) (all_of chunks)) (merge told (record { world = g; state = state; output = out; left = through }))
  chunks_meet [] [] nr g state out begin same each ran = (refl, not_bad p.roles (store_at state g out) (λ k. k) tt)
  chunks_meet [] (c ∷ cs) nr g state out begin same each ran = absurd ran
  chunks_meet (is ∷ iss) [] nr g state out begin same each ran = absurd ran
  chunks_meet ([] ∷ iss) (c ∷ cs) nr g state out begin same each ran = absurd (first_has iss each)
  chunks_meet ((i ∷ is) ∷ iss) (c ∷ cs) nr g state out begin same each ran =
      let rest = all_of iss in
      let a = x nr g out begin i is in
      let b = y nr g out begin i is in
      let from : run (store_at state g out) ((i ∷ is) ++ rest) ≡ run (store_at (state_at p nr) g out) ((i ∷ is) ++ rest) =
      sym ((law.anew p.eres p.code i (state_at p nr) state same).1 p.budget (is ++ rest) (store_at (state_at p nr) g out)) in
      let parted : run (store_at (state_at p nr) g out) ((i ∷ is) ++ rest) ≡ onward (λ e. run e rest) a.left a =
      law.follow (steady p) store_final p.eres p.code may.allows p.budget (i ∷ is) rest (store_at (state_at p nr) g out) refl in
      let told : c ≡ leavings b =
      ran.0.2 ∙ ap leavings (sym ((law.anew_chunk p.eres p.code i (state_at p nr) ran.0.0 ran.0.1).1 p.budget is (chunk_opening (setting p g out) (state_at p nr)))) in
      let before : End Globals = record { world = g; state = state; output = out; left = through } in
      subst (λ w. Meets p.roles w (merge (c ∷ cs) before)) (sym (from ∙ parted))
      (subst (λ k. Meets p.roles (onward (λ e. run e rest) a.left a) (merge (k ∷ cs) before)) (sym told)
      (chunk_meets nr g out begin i is rest cs
      (λ alike on.
      let k = kept nr g out begin i is in
      let next = chunks_meet iss cs (nr + length (i ∷ is)) a.world.globals a.state a.output
      (begins_with p g a.world.globals out a.output (law.again (setting p g out) a.world b.world begin alike.worlds))
      (state_after_items p nr (i ∷ is) k.read a.left a.state on (k.all_read on) k.state)
      (rest_have (i ∷ is) iss each)
      (ran.1 (ap (λ z. z.left) told ∙ sym alike.lefts ∙ on)) in
      subst (λ w. Meets p.roles w (merge cs (plain a))) (sym (resumed a rest on))
      (subst (λ e. Meets p.roles (with_trace_before a.world.trace (run (store_at a.state a.world.globals a.output) rest)) (merge cs e))
      (λ j. record { world = a.world.globals; state = a.state; output = a.output; left = sym on j })
      (meets_longer a.world.trace (run (store_at a.state a.world.globals a.output) rest) (merge cs (record { world = a.world.globals; state = a.state; output = a.output; left = through })) alike.worlds.lawful next)))
      (law.commute (setting p g out) begin may.allows p.eres p.budget None (i ∷ is) (state_at p nr))))

-- what is met with a trace is met without one
pub untraced : (p : Phase) → TracedLaw → (items : List Item) (r : Result (End Globals) Stop) → Meets p.roles (in_order_traced p items) r → MatchResult r (λ e. (in_order p items ≡ e) × ¬ FaultsOrCreates p items) (λ stop. FaultsOrCreates p items)
untraced p law items r h = by r h
  where
    same : plain (in_order_traced p items) ≡ in_order p items
    same = law p.eres p.code p.budget None items (traced_opening p)

    by : (r : Result (End Globals) Stop) → Meets p.roles (in_order_traced p items) r → MatchResult r (λ e. (in_order p items ≡ e) × ¬ FaultsOrCreates p items) (λ stop. FaultsOrCreates p items)
    by (Ok e) h = (sym same ∙ h.0, λ bad. h.1 (⊎_elim (λ k. inl (subst (λ (e : End Globals). IsFault e.left) (sym same) k)) (λ k. inr k) bad))
    by (Err s) h = ⊎_elim (λ k. inl (subst (λ (e : End Globals). IsFault e.left) same k)) (λ k. inr k) h
