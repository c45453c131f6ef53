-- Which windows fault or create an element.
use Rattle.std.proofs.Common.{◌≡◌, List, [], ◌∷◌, None, Result, Ok, ap, sym, ◌∙◌, subst, inl, inr, ⊎_elim, arith}
use Rattle.std.specs.Prelude.{◌⊎◌, ◌↔◌, flat_map, MatchResult}
use Rattle.std.proofs.lemmas.List.{append-nil}
use Rattle.pawk_input.specs.Input.{Item}
use Rattle.pawk_store.specs.Globals.{Globals, calls}
use Rattle.pawk_admit.specs.Roles.{Roles}
use Rattle.pawk_store.specs.Records.{Left, through, End}
use Rattle.pawk_store.specs.Runs.{records_from}
use Rattle.pawk_store.specs.Outputs.{with_output_before, OutputIsAppendedLaw}
use Rattle.pawk_commute.specs.Traces.{Event, Traced, traced}
use Rattle.pawk_commute.specs.TracedRuns.{TracedLaw, TraceIsAppendedLaw}
use Rattle.pawk_merge.specs.Merges.{Chunk, Stop, merge}
use Rattle.pawk_merge_law.specs.Phases.{Phase, opening, in_order, traced_opening, in_order_traced, IsFault, CreatesElement, FaultsOrCreates}
use Rattle.pawk_merge_law.specs.ChunkedRuns.{all_of, ChunksLaw}
use Rattle.pawk_merge_law.specs.Pieces.{Progress}
use Rattle.pawk_merge_law.specs.Windows.{phase_at, Window, in_chunks, in_turn, records_in, IsMerged, RunsTo, without_output}
use Rattle.pawk_merge_law.specs.Ways.{Step, step_records, AreSteps, InTurnFaultsOrCreates, OneFaultsOrCreates}
use Rattle.pawk_merge_law.proofs.PiecesLemmas.{same}
use Rattle.pawk_merge_law.proofs.PartingLemmas.{parting}

abbrev Bad : Roles → Left → List Event → Type 0
Bad roles left trace = IsFault left ⊎ CreatesElement roles trace

-- the laws that these stand on
pub record Laws : Type 0 where
  pub chunks : ChunksLaw
  pub traces : TracedLaw
  pub longer : TraceIsAppendedLaw
  pub appended : OutputIsAppendedLaw calls
  pub appended_traced : OutputIsAppendedLaw (traced calls)

module _ (law : Laws) where
  -- ---- what was written before does not matter

  module _ (p : Phase) (items : List Item) where
    abbrev quiet : Phase
    quiet = record p { output = [] }

    plain_left : (in_order p items).left ≡ (in_order quiet items).left
    plain_left =
        let opens : opening p ≡ with_output_before p.output (opening quiet) = λ j. record { world = p.globals; state = p.state; output = sym (append-nil p.output) j; left = through } in
        ap (λ (e : End Globals). e.left) (ap (λ e. records_from calls p.eres p.code p.budget None e items) opens
        ∙ law.appended p.eres p.code p.budget None items p.output (opening quiet))

    traced_world : (in_order_traced p items).world ≡ (in_order_traced quiet items).world
    traced_world =
        let opens : traced_opening p ≡ with_output_before p.output (traced_opening quiet) = λ j. record { world = record { globals = p.globals; trace = [] }; state = p.state; output = sym (append-nil p.output) j; left = through } in
        ap (λ (e : End Traced). e.world) (ap (λ e. records_from (traced calls) p.eres p.code p.budget None e items) opens
        ∙ law.appended_traced p.eres p.code p.budget None items p.output (traced_opening quiet))

    quietly : FaultsOrCreates p items ≡ FaultsOrCreates quiet items
    quietly = λ j. Bad p.roles (plain_left j) (ap (λ (w : Traced). w.trace) traced_world j)

  -- ---- one window

  none_bad : (q : Phase) → FaultsOrCreates q [] → ⊥
  none_bad q h = ⊎_elim (λ k. k) (λ k. absurd (omega (arith, k.3.1))) h

  merges_well : (r : Result (End Globals) Stop) (items : List Item) (q : Phase) (e : End Globals) → MatchResult r (λ e. (in_order q items ≡ e) × ¬ FaultsOrCreates q items) (λ stop. FaultsOrCreates q items) → r ≡ Ok e → (in_order q items ≡ e) × ¬ FaultsOrCreates q items
  merges_well r items q e h k =
      let P : Result (End Globals) Stop → Type 0 = λ r. MatchResult r (λ e. (in_order q items ≡ e) × ¬ FaultsOrCreates q items) (λ stop. FaultsOrCreates q items) in
      subst P k h

  module _ (p : Phase) (a : Progress Globals) (on : a.end.left ≡ through) (none : a.skip ≡ None) where
    abbrev q : Phase
    q = phase_at p a.end

    merges_in_order : (chunks : List (List Item)) (results : List Chunk) (b : Progress Globals) → IsMerged p a chunks results b → (in_order q (all_of chunks) ≡ b.end) × ¬ FaultsOrCreates q (all_of chunks)
    merges_in_order chunks results b m = merges_well (merge results (opening q)) (all_of chunks) q b.end (law.chunks q m.may_run chunks results m.each m.runs) m.merges

    runs_in_order : (w : Window) (b : Progress Globals) → RunsTo p a w b → in_order q (records_in w) ≡ b.end
    runs_in_order (in_chunks chunks results) b m = (merges_in_order chunks results b m).0
    runs_in_order (in_turn items) b h =
        let opens : opening q ≡ a.end = λ j. record { world = a.end.world; state = a.end.state; output = a.end.output; left = sym on j } in
        ap (λ e. records_from calls p.eres p.code p.budget None e items) opens
        ∙ ap (λ s. records_from calls p.eres p.code p.budget s a.end items) (sym none)
        ∙ same calls p.eres p.code p.budget items a.skip a.end
        ∙ ap (λ (t : Progress Globals). t.end) h

    bad_is : (w : Window) (b : Progress Globals) → RunsTo p a w b → FaultsOrCreates q (records_in w) → InTurnFaultsOrCreates p a w
    bad_is (in_chunks chunks results) b m h = (merges_in_order chunks results b m).1 h
    bad_is (in_turn items) b c h = h

    is_bad : (w : Window) → InTurnFaultsOrCreates p a w → FaultsOrCreates q (records_in w)
    is_bad (in_chunks chunks results) h = absurd h
    is_bad (in_turn items) h = h

  -- ---- all windows

  pub ways : (p : Phase) (a : Progress Globals) (steps : List Step) → a.end.left ≡ through → a.skip ≡ None → AreSteps p a steps → FaultsOrCreates (phase_at p a.end) (flat_map step_records steps) ↔ OneFaultsOrCreates p a steps
  ways p a [] on none h = (λ k. none_bad (phase_at p a.end) k, λ k. absurd k)
  ways p a (s ∷ []) on none h = (
    λ k. inl (bad_is p a on none s.window s.progress h (subst (FaultsOrCreates (phase_at p a.end)) (append-nil (records_in s.window)) k)),
    λ k. ⊎_elim (λ b. subst (FaultsOrCreates (phase_at p a.end)) (sym (append-nil (records_in s.window))) (is_bad p a on none s.window b)) (λ b. absurd b) k,
  )
  ways p a (s ∷ t ∷ ss) on none h =
      let q0 = phase_at p a.end in
      let rest = flat_map step_records (t ∷ ss) in
      let there : in_order q0 (records_in s.window) ≡ s.progress.end = runs_in_order p a on none s.window s.progress h.0 in
      let parts = parting q0 law.traces law.longer (records_in s.window) rest (ap (λ (e : End Globals). e.left) there ∙ h.1) in
      let next = ways p (without_output s.progress) (t ∷ ss) h.1 h.2 h.3 in
      let later : FaultsOrCreates (phase_at q0 (in_order q0 (records_in s.window))) rest ≡ FaultsOrCreates (phase_at p (without_output s.progress).end) rest =
      ap (λ e. FaultsOrCreates (phase_at q0 e) rest) there ∙ quietly (phase_at p s.progress.end) rest in (
        λ k. ⊎_elim
            (λ b. inl (bad_is p a on none s.window s.progress h.0 b))
            (λ b. inr (next.0 (subst (λ T. T) later b)))
            (parts.0 k),
        λ k. parts.1 (⊎_elim
            (λ b. inl (is_bad p a on none s.window b))
            (λ b. inr (subst (λ T. T) (sym later) (next.1 b)))
            k),
      )
