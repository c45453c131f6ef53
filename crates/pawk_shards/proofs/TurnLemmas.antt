-- Records that are run in order where a run has come, and what follows records that ended a run.
use Rattle.std.proofs.Common.{◌≡◌, List, [], ◌∷◌, ◌++◌, None, refl, ap, sym, ◌∙◌, subst, inl, inr, ⊎_elim}
use Rattle.std.specs.Prelude.{◌⊎◌, ◌↔◌}
use Rattle.pawk_input.specs.Input.{Item}
use Rattle.pawk_store.specs.Globals.{Globals, calls}
use Rattle.pawk_store.specs.RecordStates.{RecordState}
use Rattle.pawk_admit.specs.Roles.{Roles}
use Rattle.pawk_store.specs.Records.{Left, through, next_file, exit, fault, clash, End}
use Rattle.pawk_store.specs.Runs.{records_from}
use Rattle.pawk_store.specs.Steady.{AreSameButRecord, RecordsKeepLaw, onward, RecordsFollowLaw, ReadsAnewLaw}
use Rattle.pawk_commute.specs.Settings.{PermitsFor}
use Rattle.pawk_commute.specs.Traces.{Event, Traced, traced}
use Rattle.pawk_commute.specs.TracedRuns.{TracedLaw}
use Rattle.pawk_commute.proofs.OrderLemmas.{store_final}
use Rattle.pawk_commute.proofs.TracedLemmas.{plain_final}
use Rattle.pawk_merge_law.specs.Phases.{Phase, MayRun, opening, in_order, traced_opening, in_order_traced, IsFault, CreatesElement, FaultsOrCreates}
use Rattle.pawk_merge_law.specs.ChunkedRuns.{HasRecord}
use Rattle.pawk_merge_law.proofs.OpeningLemmas.{steady}
use Rattle.pawk_merge_law.specs.Windows.{phase_at, MayRunOnLaw, PartingLaw}
use Rattle.pawk_shards.specs.Apart.{HasCome, GoesOn}
use Rattle.pawk_shards.proofs.EndLemmas.{ends_itself, come_through, come_ends, ends_so}

-- the laws that these stand on
pub record Laws (p : Phase) : Type 0 where
  pub keep : RecordsKeepLaw (PermitsFor p.code p.roles) calls
  pub follow : RecordsFollowLaw (PermitsFor p.code p.roles) calls
  pub follow_traced : RecordsFollowLaw (PermitsFor p.code p.roles) (traced calls)
  pub anew : ReadsAnewLaw calls
  pub anew_traced : ReadsAnewLaw (traced calls)
  pub traces : TracedLaw
  pub run_on : MayRunOnLaw
  pub parting : PartingLaw

-- what tells that records may not be merged
abbrev pub Bad : Roles → Left → List Event → Type 0
Bad roles left trace = IsFault left ⊎ CreatesElement roles trace

-- Where an end was not left through, nothing follows.
stays : {S : Type 0} (go : End S → End S) (l : Left) (x : End S) → (¬ (l ≡ through)) → onward go l x ≡ x
stays go through x closed = absurd (closed refl)
stays go next_file x closed = refl
stays go (exit n) x closed = refl
stays go (fault f) x closed = refl
stays go clash x closed = refl

-- Something is so where an end was left through and where it was not.
pub by_left : (l : Left) (X : Type 0) → (l ≡ through → X) → ((¬ (l ≡ through)) → X) → X
by_left through X h k = h refl
by_left next_file X h k = k (λ e. let bad : next_file ≡ through = e in absurd cc)
by_left (exit n) X h k = k (λ e. let bad : exit n ≡ through = e in absurd cc)
by_left (fault f) X h k = k (λ e. let bad : fault f ≡ through = e in absurd cc)
by_left clash X h k = k (λ e. let bad : clash ≡ through = e in absurd cc)

-- Either way where two statements are the same.
pub same_both_ways : (X Y : Type 0) → X ≡ Y → X ↔ Y
same_both_ways X Y h = (λ x. subst (λ T. T) h x, λ y. subst (λ T. T) (sym h) y)

module _ (p : Phase) (may : MayRun p) (law : Laws p) where
  abbrev run : End Globals → List Item → End Globals
  run e items = records_from calls p.eres p.code p.budget None e items

  abbrev run_traced : End Traced → List Item → End Traced
  run_traced e items = records_from (traced calls) p.eres p.code p.budget None e items

  -- ---- records in two parts

  follows : (items more : List Item) → in_order p (items ++ more) ≡ onward (λ x. run x more) (in_order p items).left (in_order p items)
  follows items more = law.follow (steady p) plain_final p.eres p.code may.allows p.budget items more (opening p) refl

  follows_traced : (items more : List Item) → in_order_traced p (items ++ more) ≡ onward (λ x. run_traced x more) (in_order_traced p items).left (in_order_traced p items)
  follows_traced items more = law.follow_traced (steady p) store_final p.eres p.code may.allows p.budget items more (traced_opening p) refl

  traced_left : (items : List Item) → (in_order_traced p items).left ≡ (in_order p items).left
  traced_left items = ap (λ (e : End Globals). e.left) (law.traces p.eres p.code p.budget None items (traced_opening p))

  -- ---- another record state

  module _ (g : End Globals) (s : RecordState) (same : AreSameButRecord g.state s) (i : Item) (is : List Item) where
    -- the same end with another record state
    abbrev other : End Globals
    other = record g { state = s }

    runs_alike : run g (i ∷ is) ≡ run other (i ∷ is)
    runs_alike = (law.anew p.eres p.code i g.state s same).1 p.budget is g

    left_alike : (in_order (phase_at p g) (i ∷ is)).left ≡ (in_order (phase_at p other) (i ∷ is)).left
    left_alike = ap (λ (e : End Globals). e.left) ((law.anew p.eres p.code i g.state s same).1 p.budget is (opening (phase_at p g)))

    trace_alike : (in_order_traced (phase_at p g) (i ∷ is)).world.trace ≡ (in_order_traced (phase_at p other) (i ∷ is)).world.trace
    trace_alike = ap (λ (e : End Traced). e.world.trace) ((law.anew_traced p.eres p.code i g.state s same).1 p.budget is (traced_opening (phase_at p g)))

    bad_alike : FaultsOrCreates (phase_at p g) (i ∷ is) ≡ FaultsOrCreates (phase_at p other) (i ∷ is)
    bad_alike = λ j. Bad p.roles (left_alike j) (trace_alike j)

  -- Whether records may be run in chunks does not rest on the record state and the output.
  may_with : (g e : End Globals) → e.world ≡ g.world → MayRun (phase_at p g) → MayRun (phase_at p e)
  may_with g e h m =
      let there : MayRun (record p { globals = g.world; state = e.state; output = e.output }) = record {
        allows = m.allows;
        role_slots = m.role_slots;
        in_order = m.in_order;
        numbers = m.numbers;
      } in
      subst (λ w. MayRun (record p { globals = w; state = e.state; output = e.output })) (sym h) there

  -- ---- records where a run has come

  pub may_run_there : (items : List Item) (e : End Globals) → HasCome p items e → MayRun (phase_at p e)
  may_run_there items e come = may_with (in_order p items) e (ap (λ (x : End Globals). x.world) come.ends) (law.run_on p may items come.harmless)

  module _ (items : List Item) (e : End Globals) (come : HasCome p items e) (i : Item) (is : List Item) where
    abbrev g : End Globals
    g = in_order p items

    abbrev more : List Item
    more = i ∷ is

    on : g.left ≡ through
    on = come_through p may law.keep items e come

    same_state : AreSameButRecord g.state e.state
    same_state = (come_ends p may law.keep items e come).1

    exactly : run e more ≡ in_order p (items ++ more)
    exactly =
        ap (λ x. run x more) come.ends
        ∙ sym (runs_alike g e.state same_state i is)
        ∙ sym (follows items more ∙ ap (λ l. onward (λ x. run x more) l g) on)

    bad_there : FaultsOrCreates (phase_at p g) more ≡ FaultsOrCreates (phase_at p e) more
    bad_there = bad_alike g e.state same_state i is ∙ ap (λ x. FaultsOrCreates (phase_at p x) more) (sym come.ends)

    bad_both : FaultsOrCreates p (items ++ more) ↔ FaultsOrCreates (phase_at p e) more
    bad_both =
        let parts = law.parting p items more on in
        let ways = same_both_ways (FaultsOrCreates (phase_at p g) more) (FaultsOrCreates (phase_at p e) more) bad_there in
        (λ h. ⊎_elim (λ k. absurd (come.harmless k)) (λ k. ways.0 k) (parts.0 h), λ h. parts.1 (inr (ways.1 h)))

    goes_on_some : GoesOn p items e more
    goes_on_some = record {
      ends = exactly;
      faults = bad_both;
      ends_so = λ none. ends_so p may law.keep (items ++ more) (run e more) (ends_itself (in_order p (items ++ more)) (run e more) (sym exactly)) (λ h. none (bad_both.0 h));
    }

  pub goes_on : (items : List Item) (e : End Globals) → HasCome p items e → (more : List Item) → HasRecord more → GoesOn p items e more
  goes_on items e come [] has = absurd has
  goes_on items e come (i ∷ is) has = goes_on_some items e come i is

  -- ---- what follows

  module _ (items more : List Item) where
    bad_ended : (¬ ((in_order p items).left ≡ through)) → FaultsOrCreates p (items ++ more) ≡ FaultsOrCreates p items
    bad_ended closed =
        let same = follows items more ∙ stays (λ x. run x more) (in_order p items).left (in_order p items) closed in
        let closed_traced : ¬ ((in_order_traced p items).left ≡ through) = λ h. closed (sym (traced_left items) ∙ h) in
        let same_traced = follows_traced items more ∙ stays (λ x. run_traced x more) (in_order_traced p items).left (in_order_traced p items) closed_traced in
        λ j. Bad p.roles (same j).left (same_traced j).world.trace

    pub ended : (¬ ((in_order p items).left ≡ through)) → (in_order p (items ++ more) ≡ in_order p items) × (FaultsOrCreates p (items ++ more) ↔ FaultsOrCreates p items)
    ended closed = (
      follows items more ∙ stays (λ x. run x more) (in_order p items).left (in_order p items) closed,
      same_both_ways (FaultsOrCreates p (items ++ more)) (FaultsOrCreates p items) (bad_ended closed),
    )

    pub stays_bad : FaultsOrCreates p items → FaultsOrCreates p (items ++ more)
    stays_bad h =
        by_left (in_order p items).left (FaultsOrCreates p (items ++ more))
        (λ on. (law.parting p items more on).1 (inl h))
        (λ closed. (ended closed).1.1 h)
