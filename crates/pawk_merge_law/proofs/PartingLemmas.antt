-- Records in two parts, and what tells that they may not be merged; globals from which chunks may be run again.
use Rattle.std.proofs.Common.{◌≡◌, zero, ◌≤◌, List, [], ◌∷◌, ◌++◌, None, length, refl, ap, sym, ◌∙◌, subst, inl, inr, ⊎_elim, arith}
use Rattle.std.specs.Prelude.{◌⊎◌, ◌↔◌, Contains}
use Rattle.std.proofs.lemmas.List.{append-nil}
use Rattle.std.proofs.lemmas.List.Elements.{Contains-append_left, Contains-append_right, Contains-append_cases}
use Rattle.pawk_input.specs.Input.{Item}
use Rattle.pawk_store.specs.Globals.{Globals, calls}
use Rattle.pawk_frozen.specs.Frozens as frozen
use Rattle.pawk_store.specs.Records.{through, End}
use Rattle.pawk_store.specs.Runs.{records_from}
use Rattle.pawk_commute.specs.Traces.{Event, created, Traced, traced}
use Rattle.pawk_commute.specs.TracedRuns.{plain, TracedLaw, with_trace_before, TraceIsAppendedLaw}
use Rattle.pawk_commute.specs.Settings.{MayBegin}
use Rattle.pawk_commute.specs.Commutation.{chunk_opening, Commuted, no_event, amount_fault, missed_key, add_fault, Commutation, StartsAgain}
use Rattle.pawk_admit.specs.declared.role.Role.TheVariants.{Fixed, Reader}
use Rattle.pawk_merge_law.specs.Phases.{Phase, MayRun, in_order, traced_opening, in_order_traced, IsFault, CreatesElement, FaultsOrCreates}
use Rattle.pawk_merge_law.proofs.OpeningLemmas.{setting, begins}
use Rattle.pawk_merge_law.specs.Pieces.{Progress, if_open, progress_after, resume}
use Rattle.pawk_merge_law.specs.Windows.{phase_at}
use Rattle.pawk_merge_law.proofs.PiecesLemmas.{same, skips_none, pieces}

module _ (p : Phase) (traces : TracedLaw) where
  plain_end : (items : List Item) → plain (in_order_traced p items) ≡ in_order p items
  plain_end items = traces p.eres p.code p.budget None items (traced_opening p)

  plain_left : (items : List Item) → (in_order_traced p items).left ≡ (in_order p items).left
  plain_left items = ap (λ (e : End Globals). e.left) (plain_end items)

  -- ---- globals from which chunks may be run again

  may_from : MayRun p → (g : Globals) → MayBegin (record (setting p p.globals p.output) { start = g }) → (e : End Globals) → e.world ≡ g → MayRun (phase_at p e)
  may_from may g k e is =
      let there : MayRun (record p { globals = g; state = e.state; output = e.output }) = record {
        allows = may.allows;
        role_slots = (
          subst (λ n. length p.roles.scalars ≤ n) (sym k.agrees.slots.0) k.role_slots.0,
          subst (λ n. length p.roles.arrays ≤ n) (sym k.agrees.slots.1) k.role_slots.1,
        );
        in_order = k.agrees.in_order;
        numbers = k.numbers;
      } in
      subst (λ w. MayRun (record p { globals = w; state = e.state; output = e.output })) (sym is) there

  faults : (items : List Item) → IsFault (in_order_traced p items).left → FaultsOrCreates p items
  faults items h = inl (subst IsFault (plain_left items) h)

  single : (e : Event) → Contains (e ∷ []) e
  single e = (zero, omega (arith), refl)

  may_after : StartsAgain → MayRun p → (items : List Item) → ¬ FaultsOrCreates p items
      → Commuted (setting p p.globals p.output) (in_order_traced p items) (records_from frozen.calls p.eres p.code p.budget None (chunk_opening (setting p p.globals p.output) p.state) items)
      → MayRun (phase_at p (in_order p items))
  may_after again may items none (no_event alike clean) =
      let x = in_order_traced p items in
      let y = records_from frozen.calls p.eres p.code p.budget None (chunk_opening (setting p p.globals p.output) p.state) items in
      may_from may x.world.globals (again (setting p p.globals p.output) x.world y.world (begins p may) alike.worlds)
      (in_order p items) (sym (ap (λ (e : End Globals). e.world) (plain_end items)))
  may_after again may items none (amount_fault k) =
      absurd (none (faults items (subst (λ (e : End Traced). IsFault e.left) (sym k.store_ends) tt)))
  may_after again may items none (missed_key k) =
      let x = in_order_traced p items in
      let e = created k.array k.key in
      let there : Contains x.world.trace e =
      subst (λ es. Contains es e) (sym k.store_trace.1)
      (Contains-append_left (k.first.trace ++ e ∷ []) k.store_trace.0 e (Contains-append_right k.first.trace (e ∷ []) e (single e))) in
      absurd (none (inr (k.array, k.key, (λ r. let bad : Fixed ≡ Reader = sym k.role ∙ r in absurd cc), there)))
  may_after again may items none (add_fault k) =
      absurd (none (faults items (subst (λ (e : End Traced). IsFault e.left) (sym k.store_ends) tt)))

  pub may_run_on : Commutation → StartsAgain → MayRun p → (items : List Item) → ¬ FaultsOrCreates p items → MayRun (phase_at p (in_order p items))
  may_run_on commute again may items none =
      may_after again may items none (commute (setting p p.globals p.output) (begins p may) may.allows p.eres p.budget None items p.state)

  -- ---- records in two parts

  module _ (appended : TraceIsAppendedLaw) (items more : List Item) (on : (in_order p items).left ≡ through) where
    abbrev q : Phase
    q = phase_at p (in_order p items)

    abbrev x : End Traced
    x = in_order_traced p items

    abbrev y : End Traced
    y = in_order_traced q more

    x_on : x.left ≡ through
    x_on = plain_left items ∙ on

    x_opens : x ≡ with_trace_before x.world.trace (traced_opening q)
    x_opens = λ j. record {
      world = record { globals = (ap (λ (e : End Globals). e.world) (plain_end items)) j; trace = sym (append-nil x.world.trace) j };
      state = (ap (λ (e : End Globals). e.state) (plain_end items)) j;
      output = (ap (λ (e : End Globals). e.output) (plain_end items)) j;
      left = x_on j;
    }

    abbrev t : Progress Traced
    t = progress_after (traced calls) p.eres p.code p.budget None (traced_opening p) items

    t_end : t.end ≡ x
    t_end = sym (same (traced calls) p.eres p.code p.budget items None (traced_opening p))

    t_skip : t.skip ≡ None
    t_skip = skips_none (traced calls) p.eres p.code p.budget items None (traced_opening p) (λ _. refl) (ap (λ (e : End Traced). e.left) t_end ∙ x_on)

    both : in_order_traced p (items ++ more) ≡ with_trace_before x.world.trace y
    both =
        pieces (traced calls) p.eres p.code p.budget more items None (traced_opening p) tt
        ∙ ap (λ (b : Progress Traced). resume (traced calls) p.eres p.code p.budget b more) (λ j. record { skip = t_skip j; end = t_end j })
        ∙ ap (λ l. if_open l (records_from (traced calls) p.eres p.code p.budget None x more) x) x_on
        ∙ ap (λ e. records_from (traced calls) p.eres p.code p.budget None e more) x_opens
        ∙ appended p.eres p.code p.budget None more x.world.trace (traced_opening q)

    left_both : (in_order p (items ++ more)).left ≡ (in_order q more).left
    left_both = sym (plain_left (items ++ more)) ∙ ap (λ (e : End Traced). e.left) both ∙ ap (λ (e : End Globals). e.left) (traces p.eres p.code p.budget None more (traced_opening q))

    trace_both : (in_order_traced p (items ++ more)).world.trace ≡ x.world.trace ++ y.world.trace
    trace_both = ap (λ (e : End Traced). e.world.trace) both

    creates_one : CreatesElement p.roles (x.world.trace ++ y.world.trace) → FaultsOrCreates p items ⊎ FaultsOrCreates q more
    creates_one k = ⊎_elim
        (λ there. inl (inr (k.0, k.1, k.2, there)))
        (λ there. inr (inr (k.0, k.1, k.2, there)))
        (Contains-append_cases x.world.trace y.world.trace (created k.0 k.1) k.3)

    of_both : FaultsOrCreates p (items ++ more) → FaultsOrCreates p items ⊎ FaultsOrCreates q more
    of_both h = ⊎_elim
        (λ k. inr (inl (subst IsFault left_both k)))
        (λ k. creates_one (subst (CreatesElement p.roles) trace_both k))
        h

    of_first : FaultsOrCreates p items → FaultsOrCreates p (items ++ more)
    of_first h = ⊎_elim
        (λ k. absurd (subst IsFault on k))
        (λ k. inr (subst (CreatesElement p.roles) (sym trace_both)
        (k.0, k.1, k.2, Contains-append_left x.world.trace y.world.trace (created k.0 k.1) k.3)))
        h

    of_second : FaultsOrCreates q more → FaultsOrCreates p (items ++ more)
    of_second h = ⊎_elim
        (λ k. inl (subst IsFault (sym left_both) k))
        (λ k. inr (subst (CreatesElement p.roles) (sym trace_both)
        (k.0, k.1, k.2, Contains-append_right x.world.trace y.world.trace (created k.0 k.1) k.3)))
        h

    pub parting : FaultsOrCreates p (items ++ more) ↔ (FaultsOrCreates p items ⊎ FaultsOrCreates q more)
    parting = (of_both, λ h. ⊎_elim of_first of_second h)
