-- Chunks that were merged as far as they can be, and the records of the others.
use Rattle.std.proofs.Common.{◌≡◌, ◌∙◌, ◌<◌, ◌∷◌, ℕ, List, [], length, drop, ap, sym, subst, true, false, Some, None, Option}
use Rattle.std.specs.Prelude.{All, MatchOption, is_some}
use Rattle.std.specs.List.{flat_map}
use Rattle.std.specs.Option.{option_map}
use Rattle.std.proofs.lemmas.List.Elements.{All-nil, All-cons, All-head, All-tail}
use Rattle.pawk_input.specs.Input.{File, Item, files_of}
use Rattle.pawk_input.specs.Plan.{IsChunkOf, IsPlaced, ArePlaced, chunk_items}
use Rattle.pawk_input.specs.declared.cutting.Chunk.{Chunk}
use Rattle.pawk_code.specs.ProgramViews.{code_view}
use Rattle.pawk_store.specs.Globals.{Globals, calls}
use Rattle.pawk_store.specs.StateViews.{state_of}
use Rattle.pawk_store.specs.Records.{End, through}
use Rattle.pawk_store.specs.Runs.{records_from}
use Rattle.pawk_store.specs.LeftViews.{left_view}
use Rattle.pawk_merge.specs.MergeViews.{end_view}
use Rattle.pawk_merge.specs.ExtentViews.{extent_view, stop_view}
use Rattle.pawk_merge.specs.declared.extent.Extent.{Extent}
use Rattle.pawk_merge.specs.declared.stop.MergeStop.{MergeStop}
use Rattle.pawk_merge_law.specs.Phases.{MayRun, in_order}
use Rattle.pawk_merge_law.specs.Gathered.{AreNumbered}
use Rattle.pawk_chunks.specs.declared.task.Chunked.{Chunked}
use Rattle.pawk_admit.specs.declared.role.Roles.{Roles as CodeRoles}
use Rattle.pawk_pieces.specs.Job.{Job}
use Rattle.pawk_routes.specs.declared.prologue.Prologue.{Prologue}
use Rattle.pawk_merge_law.specs.Windows.{phase_at}
use Rattle.pawk_code.specs.Programs.{Code}
use Rattle.pawk_store.specs.Outputs.{in_a_row, with_output_before}
use Rattle.pawk_store.proofs.Framing.{records_append}
use Rattle.std.proofs.lemmas.List.{append-nil}
use Rattle.pawk_merge.specs.declared.merging.Merged.{Merged}
use Rattle.pawk_pieces.specs.Merged.{FarResultsLaw, IsMergedFar, AllMerged, SomeMerged}
use Rattle.pawk_chunks.specs.Task.{items_in}
use Rattle.pawk_flow.specs.Stages.{IsFarFrom, LeavesOut, RunsOn, WentFar, opening_at, phase_in, remnant_end}
use Rattle.pawk_flow.specs.declared.window.Remnant.{Remnant}

-- chunks that have their places are chunks of the files
are_chunks : (rs : List ℕ) (files : List File) (plan : List Chunk) → ArePlaced rs files plan → All (λ c. IsChunkOf rs files c) plan
are_chunks rs files [] placed = All-nil (λ c. IsChunkOf rs files c)
are_chunks rs files (c ∷ cs) placed =
    let Q : Chunk → Type 0 = λ d. IsPlaced rs files d in
    All-cons (λ d. IsChunkOf rs files d) c cs (All-head Q c cs placed).chunk (are_chunks rs files cs (All-tail Q c cs placed))

module _ (job : Job) (roles : CodeRoles) (b : Prologue) (source : Chunked) where
  -- the law of what was merged, of an extent of the code
  pub far : FarResultsLaw → MayRun (phase_in job roles b) → ArePlaced source.rs.now (files_of source.input.now) source.plan.now →
      AreNumbered b.run.state.nr (items_in source) → (globals : Globals) (x : Extent) → IsFarFrom job roles source b globals x →
      IsMergedFar (opening_at job roles b) source.rs.now (files_of source.input.now) source.plan.now (extent_view globals x)
  far law may placed numbered globals x is =
      subst (IsMergedFar (opening_at job roles b) source.rs.now (files_of source.input.now) source.plan.now) (sym is.is)
      (law (opening_at job roles b) may source.rs.now (files_of source.input.now) source.plan.now
      (are_chunks source.rs.now (files_of source.input.now) source.plan.now placed) numbered is.results is.ran)

  abbrev Far : Globals → Extent → Type 0
  Far globals x = IsMergedFar (opening_at job roles b) source.rs.now (files_of source.input.now) source.plan.now (extent_view globals x)

  -- what is left out
  left_out_by : (globals : Globals) (x : Extent) (stop : Option MergeStop) →
      MatchOption (option_map stop_view stop)
      (AllMerged (opening_at job roles b) source.rs.now (files_of source.input.now) source.plan.now (extent_view globals x))
      (λ s. SomeMerged (opening_at job roles b) source.rs.now (files_of source.input.now) source.plan.now (extent_view globals x)) →
      MatchOption stop (Unit {0}) (λ s. (length x.merged.outputs.items < length source.plan.now) × (left_view x.merged.left ≡ through))
  left_out_by globals x None h = tt
  left_out_by globals x (Some s) h = (h.fewer, h.left)

  pub left_out : (globals : Globals) (x : Extent) → Far globals x → LeavesOut source x
  left_out globals x h = left_out_by globals x x.stop h

  abbrev ends_so : End Globals → Type 0
  ends_so e = in_order (phase_in job roles b) (items_in source) ≡ e

  -- the records of all chunks in order end as what is left, and whether not all were merged is told
  went_by : (before after : Globals) (x : Extent) (r : Remnant) (stop : Option MergeStop) →
      MatchOption (option_map stop_view stop)
      (AllMerged (opening_at job roles b) source.rs.now (files_of source.input.now) source.plan.now (extent_view before x))
      (λ s. SomeMerged (opening_at job roles b) source.rs.now (files_of source.input.now) source.plan.now (extent_view before x)) →
      MatchOption stop ((end_view before x.merged ≡ remnant_end after r) × (r.is_stopped ≡ false))
      (λ s.
      (records_from calls (code_view job.code.now).expressions (code_view job.code.now) job.budget None (end_view before x.merged)
      (flat_map (chunk_items source.rs.now (files_of source.input.now)) (drop (length x.merged.outputs.items) source.plan.now))
      ≡ remnant_end after r)
      × (r.is_stopped ≡ true)) →
      ends_so (remnant_end after r) × WentFar (phase_in job roles b) (items_in source) (remnant_end after r) r.is_stopped
  went_by before after x r None h k = (
    h.ends ∙ k.0,
    subst (λ s. WentFar (phase_in job roles b) (items_in source) (remnant_end after r) s) (sym k.1)
        (h.good, subst (λ e. MayRun (phase_at (phase_in job roles b) e)) k.0 h.more),
  )
  went_by before after x r (Some s) h k = (
    h.follow ∙ k.0,
    subst (λ s. WentFar (phase_in job roles b) (items_in source) (remnant_end after r) s) (sym k.1) h.bad,
  )

  pub went : (before after : Globals) (x : Extent) (r : Remnant) → Far before x →
      RunsOn (code_view job.code.now) job.budget source before x after r →
      ends_so (remnant_end after r) × WentFar (phase_in job roles b) (items_in source) (remnant_end after r) r.is_stopped
  went before after x r h k = went_by before after x r x.stop h k

-- the end of what was merged, with nothing written yet
abbrev pub unwritten : Globals → Merged → End Globals
unwritten g m = record { world = g; state = state_of m.state; output = []; left = left_view m.left }

in_front : (g : Globals) (m : Merged) → with_output_before (in_a_row m.outputs.items) (unwritten g m) ≡ end_view g m
in_front g m = λ i. record { world = g; state = state_of m.state; output = append-nil (in_a_row m.outputs.items) i; left = left_view m.left }

-- records after chunks that were merged, whose output was written elsewhere
rest_run : (code : Code) (budget : ℕ) (g after : Globals) (m : Merged) (r : Remnant) (e y : End Globals) (items : List Item) →
    e ≡ unwritten g m → records_from calls code.expressions code budget None e items ≡ y →
    with_output_before (in_a_row m.outputs.items) y ≡ remnant_end after r →
    records_from calls code.expressions code budget None (end_view g m) items ≡ remnant_end after r
rest_run code budget g after m r e y items begins ends left =
    let R : End Globals → End Globals = λ x. records_from calls code.expressions code budget None x items in
    let out = in_a_row m.outputs.items in
    let moved : R (with_output_before out (unwritten g m)) ≡ with_output_before out (R (unwritten g m)) =
    records_append out calls code.expressions code budget None items (unwritten g m) in
    ap R (sym (in_front g m)) ∙ moved ∙ ap (λ (x : End Globals). with_output_before out (R x)) (sym begins)
    ∙ ap (λ (x : End Globals). with_output_before out x) ends ∙ left

module _ (code : Code) (budget : ℕ) (source : Chunked) (before after : Globals) where
  goes_on_by : (m : Merged) (r : Remnant) (stop : Option MergeStop) → is_some stop ≡ true →
      (records_from calls code.expressions code budget None (end_view before m)
      (flat_map (chunk_items source.rs.now (files_of source.input.now)) (drop (length m.outputs.items) source.plan.now))
      ≡ remnant_end after r) → r.is_stopped ≡ true → RunsOn code budget source before (record { merged = m; stop = stop; noted = 0 }) after r
  goes_on_by m r None some ends is = absurd cc
  goes_on_by m r (Some s) some ends is = (ends, is)

  pub goes_on : (x : Extent) (r : Remnant) (e y : End Globals) (n : ℕ) → is_some x.stop ≡ true →
      e ≡ unwritten before x.merged → n ≡ length x.merged.outputs.items →
      records_from calls code.expressions code budget None e (flat_map (chunk_items source.rs.now (files_of source.input.now)) (drop n source.plan.now)) ≡ y →
      with_output_before (in_a_row x.merged.outputs.items) y ≡ remnant_end after r → r.is_stopped ≡ true → RunsOn code budget source before x after r
  goes_on x r e y n some begins count ends left is =
      let items : ℕ → List Item = λ k. flat_map (chunk_items source.rs.now (files_of source.input.now)) (drop k source.plan.now) in
      let R : List Item → End Globals = λ l. records_from calls code.expressions code budget None e l in
      let here : R (items (length x.merged.outputs.items)) ≡ y = ap (λ k. R (items k)) (sym count) ∙ ends in
      goes_on_by x.merged r x.stop some
      (rest_run code budget before after x.merged r e y (items (length x.merged.outputs.items)) begins here left) is
