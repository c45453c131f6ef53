-- Records of a table that are run where a run has come.
use Rattle.std.proofs.Common.{◌≡◌, ℕ, ◌+◌, ◌-◌, Bool, true, false, List, [], ◌∷◌, ◌++◌, length, Option, Some, None, ap, sym, ◌∙◌, subst, inl, inr, append-nil, length-append, arith}
use Rattle.std.specs.Prelude.{◌⊎◌, ◌↔◌}
use Rattle.pawk_code.specs.Programs.{Code}
use Rattle.pawk_input.specs.Input.{Item, file_items}
use Rattle.pawk_store.specs.Globals.{Globals, calls}
use Rattle.pawk_admit.specs.Roles.{Roles}
use Rattle.pawk_store.specs.Records.{Left, through, fault, End}
use Rattle.pawk_store.specs.Runs.{records_from}
use Rattle.pawk_store.specs.LeftViews.{left_view}
use Rattle.pawk_store.specs.Outputs.{in_a_row, with_output_before, OutputIsAppendedLaw}
use Rattle.pawk_merge_law.specs.Phases.{Phase, MayRun, in_order, FaultsOrCreates}
use Rattle.pawk_merge_law.specs.ChunkedRuns.{HasRecord, all_of}
use Rattle.pawk_merge_law.specs.Windows.{phase_at}
use Rattle.pawk_merge_law.specs.Redone.{FaultOutputLaw}
use Rattle.pawk_flow.specs.Pieces.{RunsPiece, GoesInChunks, end_between, phase_between, piece_items, piece_records}
use Rattle.pawk_flow.specs.Flow.{Flow}
use Rattle.pawk_flow.specs.Piece.{Piece}
use Rattle.pawk_flow.specs.PieceEnd.{PieceEnd}
use Rattle.pawk_shards.specs.Apart.{HasCome, GoesOn, InTurnLaw, LaterLaw}
use Rattle.pawk_shards.specs.Told.{Tell, kept_records}
use Rattle.pawk_tables.specs.Layout.{Section, kept}
use Rattle.pawk_table_merge.specs.declared.merging.TableEnd.{TableEnd}
use Rattle.pawk_table_merge.specs.declared.merging.TableEnd.TheVariants as table_end
use Rattle.pawk_table_merge.specs.declared.merging.StopCause.{StopCause}
use Rattle.pawk_table_merge.specs.declared.merging.StopCause.TheVariants as stops
use Rattle.pawk_table_merge.specs.declared.section.Progress.{Progress}
use Rattle.pawk_table_merge.specs.TableMerges.{phase_from, end_at, LeavesSo, StopsAt}
use Rattle.pawk_table_merge.specs.Sections.{IsIn, GoesTo, GoesSo, IsCauseOf, IsTableEndOf, IsEndOf, IsLastIfAny}
use Rattle.pawk_table_merge.proofs.PartLemmas.{chunk_first, stays_bad}

-- the laws that these stand on
pub record Laws : Type 0 where
  pub turn : InTurnLaw
  pub later : LaterLaw
  pub output : OutputIsAppendedLaw calls
  pub fault : FaultOutputLaw

-- what was written before a run goes on
pub written : (flow : Flow) (output : List ℕ) → with_output_before output (end_between flow) ≡ end_at flow output
written flow output = ap (λ (o : List ℕ). end_at flow o) (append-nil output)

-- a fact on one side of a choice of which the other cannot be
first_of : (X : Type 0) (Y : Type 0) → (Y → ⊥) → X ⊎ Y → X
first_of X Y none (inl x) = x
first_of X Y none (inr y) = absurd (none y)

-- what was written before is of no consequence for faults and elements of records of a file
faults_alike : FaultOutputLaw → (p : Phase) (flow : Flow) (output name : List ℕ) (fnr : ℕ) (records : List (List ℕ)) →
    let items = file_items 0 name 0 fnr records in
    FaultsOrCreates (phase_at p (end_at flow output)) items ↔ FaultsOrCreates (phase_at p (end_between flow)) items
faults_alike law p flow output name fnr records =
    let items = file_items 0 name 0 fnr records in
    let e = end_between flow in
    let both = (law (λ pairs g. g) p [] e output []).1 name fnr records in
    let none : (f : End Globals) → ((in_order (phase_at p f) items).left ≡ through) × ⊥ → ⊥ = λ f h. h.1 in
    let there : FaultsOrCreates (phase_at p (with_output_before output e)) items ↔ FaultsOrCreates (phase_at p e) items = (
      λ h. first_of (FaultsOrCreates (phase_at p e) items) (((in_order (phase_at p e) items).left ≡ through) × ⊥) (none e) (both.0 (inl h)),
      λ h. first_of (FaultsOrCreates (phase_at p (with_output_before output e)) items) (((in_order (phase_at p (with_output_before output e)) items).left ≡ through) × ⊥) (none (with_output_before output e)) (both.1 (inl h)),
    ) in
    subst (λ (x : End Globals). FaultsOrCreates (phase_at p x) items ↔ FaultsOrCreates (phase_at p e) items) (written flow output) there

module _ (law : Laws) (code : Code) (roles : Roles) (budget : ℕ) (b : End Globals) (may : MayRun (phase_from code roles budget b)) (items : List Item) (output : List ℕ)
    (flow new : Flow) (come : HasCome (phase_from code roles budget b) items (end_at flow output))
    (piece : Piece) (x : PieceEnd) (runs : RunsPiece code budget piece flow new x) (has : HasRecord (piece_items piece)) where
  abbrev p : Phase
  p = phase_from code roles budget b

  abbrev more : List Item
  more = piece_items piece

  abbrev wrote : List ℕ
  wrote = in_a_row x.outputs.items

  -- where the records got
  abbrev there : End Globals
  there = record (end_at new (output ++ wrote)) { left = left_view x.left }

  -- They end so from where the run is.
  ran : records_from calls p.eres p.code p.budget None (end_at flow output) more ≡ there
  ran =
      ap (λ (e : End Globals). records_from calls p.eres p.code p.budget None e more) (sym (written flow output))
      ∙ law.output p.eres p.code p.budget None more output (end_between flow)
      ∙ ap (with_output_before output) runs.ends

  on : GoesOn p items (end_at flow output) more
  on = law.turn p may items (end_at flow output) come more has

  -- All records in order end so.
  pub kept_ends : in_order p (items ++ more) ≡ there
  kept_ends = sym on.ends ∙ ran

  alike : FaultsOrCreates (phase_at p (end_at flow output)) more ↔ FaultsOrCreates (phase_between code roles budget flow) more
  alike = faults_alike law.fault p flow output piece.name.now piece.fnr (piece_records piece)

  -- They end in a fault, or create an element, where these do.
  pub kept_bad : FaultsOrCreates (phase_between code roles budget flow) more → FaultsOrCreates p (items ++ more)
  kept_bad h = on.faults.1 (alike.1 h)

  module _ (good : ¬ FaultsOrCreates (phase_between code roles budget flow) more) where
    pub kept_good : ¬ FaultsOrCreates p (items ++ more)
    kept_good h = good (alike.0 (on.faults.0 h))

    -- Where they were left through the run has come there.
    pub kept_comes : left_view x.left ≡ through → HasCome p (items ++ more) (end_at new (output ++ wrote))
    kept_comes through_is =
        let so = on.ends_so (λ h. good (alike.0 h)) in
        let left_is : (records_from calls p.eres p.code p.budget None (end_at flow output) more).left ≡ through = ap (λ (e : End Globals). e.left) ran ∙ through_is in
        subst (λ (e : End Globals). HasCome p (items ++ more) e)
        (ran ∙ ap (λ (l : Left). record (end_at new (output ++ wrote)) { left = l }) through_is)
        (so.goes_on left_is)

    pub kept_exactly : left_view x.left ≡ through → in_order p (items ++ more) ≡ end_at new (output ++ wrote)
    kept_exactly through_is = kept_ends ∙ ap (λ (l : Left). record (end_at new (output ++ wrote)) { left = l }) through_is

-- ---- the section

-- how a piece went whose end is told so
abbrev pub Went : Code → Roles → ℕ → Piece → Flow → Flow → PieceEnd → Type 0
Went code roles budget piece flow new x = RunsPiece code budget piece flow new x × GoesInChunks code roles budget piece flow new x.is_stopped

-- All records in order end so, with these at their end.
pub all_end : (law : Laws) (code : Code) (roles : Roles) (budget : ℕ) (b : End Globals) (may : MayRun (phase_from code roles budget b)) (items : List Item) (output : List ℕ)
    (flow new : Flow) (come : HasCome (phase_from code roles budget b) items (end_at flow output)) (piece : Piece) (x : PieceEnd) (runs : RunsPiece code budget piece flow new x)
    (c : List Item) → HasRecord c → piece_items piece ≡ c → in_order (phase_from code roles budget b) (items ++ c) ≡ record (end_at new (output ++ in_a_row x.outputs.items)) { left = left_view x.left }
all_end law code roles budget b may items output flow new come piece x runs c has is =
    ap (λ (k : List Item). in_order (phase_from code roles budget b) (items ++ k)) (sym is)
    ∙ kept_ends law code roles budget b may items output flow new come piece x runs (subst HasRecord (sym is) has)

-- records that ended so, and others that are not looked at
left_by : (l : Left) → ¬ (l ≡ through) → (f : End Globals) → f.left ≡ l → ¬ (f.left ≡ through)
left_by l closed f is h = closed (sym is ∙ h)

module _ (law : Laws) (code : Code) (roles : Roles) (budget : ℕ) (b : End Globals) (may : MayRun (phase_from code roles budget b)) (rs : List ℕ) (items : List Item) (output : List ℕ)
    (old new : Progress) (is_in : IsIn (phase_from code roles budget b) items output old) (ss : List Section) (piece : Piece) (x : PieceEnd)
    (runs : RunsPiece code budget piece old.flow new.flow x) where
  abbrev q : Phase
  q = phase_from code roles budget b

  abbrev out : List ℕ
  out = output ++ in_a_row x.outputs.items

  module _ (c : List Item) (cs : List (List Item)) (has : HasRecord c) (is : piece_items piece ≡ c) where
    abbrev all : List Item
    all = items ++ c

    has_some : HasRecord (piece_items piece)
    has_some = subst HasRecord (sym is) has

    ends : in_order q all ≡ record (end_at new.flow out) { left = left_view x.left }
    ends = all_end law code roles budget b may items output old.flow new.flow is_in.come piece x runs c has is

    -- what is stopped
    stopped : FaultsOrCreates (phase_between code roles budget old.flow) (piece_items piece) → FaultsOrCreates q all
    stopped h =
        subst (λ (is : List Item). FaultsOrCreates q (items ++ is)) is
        (kept_bad law code roles budget b may items output old.flow new.flow is_in.come piece x runs has_some h)

    ended_later : ¬ (left_view x.left ≡ through) → in_order q (items ++ all_of (c ∷ cs)) ≡ record (end_at new.flow out) { left = left_view x.left }
    ended_later closed =
        let closed_all : ¬ ((in_order q all).left ≡ through) = left_by (left_view x.left) closed (in_order q all) (ap (λ (e : End Globals). e.left) ends) in
        ap (λ (is : List Item). in_order q is) (chunk_first items c cs) ∙ ((law.later q may all (all_of cs)).1 closed_all).0 ∙ ends

    stops_so : (cause : StopCause) → IsCauseOf (left_view x.left) cause → FaultsOrCreates q all → StopsAt q (items ++ all_of (c ∷ cs)) cause
    stops_so stops.Sum h bad = absurd h
    stops_so (stops.Fault f) h bad = (
      ap (λ (e : End Globals). e.left) (ended_later (λ on. let no : fault f ≡ through = sym h ∙ on in absurd cc)) ∙ h,
      stays_bad q may law.later items c cs bad,
    )
    stops_so stops.Element h bad = stays_bad q may law.later items c cs bad

    module _ (good : ¬ FaultsOrCreates (phase_between code roles budget old.flow) (piece_items piece)) where
      harmless : ¬ FaultsOrCreates q all
      harmless = subst (λ (is : List Item). ¬ FaultsOrCreates q (items ++ is)) is
          (kept_good law code roles budget b may items output old.flow new.flow is_in.come piece x runs has_some good)

      ended_so : ¬ (left_view x.left ≡ through) → ¬ FaultsOrCreates q (items ++ all_of (c ∷ cs))
      ended_so closed h =
          let closed_all : ¬ ((in_order q all).left ≡ through) = left_by (left_view x.left) closed (in_order q all) (ap (λ (e : End Globals). e.left) ends) in
          harmless (((law.later q may all (all_of cs)).1 closed_all).1.0 (subst (λ (is : List Item). FaultsOrCreates q is) (chunk_first items c cs) h))

      goes_there : left_view x.left ≡ through → new.name ≡ old.name → Tell q rs (q.state.nr + length items + length c) old.name.now ss cs → GoesTo q rs items out new ss (c ∷ cs)
      goes_there on name others =
          let number : q.state.nr + length items + length c ≡ q.state.nr + length all = omega (arith, length-append items c) in
          record {
            done = all;
            more = cs;
            parts = chunk_first items c cs;
            is_in = record {
              come = subst (λ (is : List Item). HasCome q (items ++ is) (end_at new.flow out)) is
                  (kept_comes law code roles budget b may items output old.flow new.flow is_in.come piece x runs has_some good on);
              exact = λ _. ends ∙ ap (λ (l : Left). record (end_at new.flow out) { left = l }) on;
            };
            told = subst (λ T. T) (λ j. Tell q rs (number j) ((sym name) j).now ss cs) others;
          }

    -- all cases of how they were left
    leaves : (stopped_is : Bool) → GoesInChunks code roles budget piece old.flow new.flow stopped_is → (k : ℕ) (end : TableEnd) → IsTableEndOf (left_view x.left) stopped_is k end →
        LeavesSo q (items ++ all_of (c ∷ cs)) out new.flow end
    leaves s goes k table_end.Through h = absurd h
    leaves true goes k (table_end.Ended l) h = let no : true ≡ false = h.0 in absurd cc
    leaves false goes k (table_end.Ended l) h = (
      ended_later h.2 ∙ ap (λ (k : Left). record (end_at new.flow out) { left = k }) h.1,
      λ on. h.2 (h.1 ∙ on),
      ended_so goes.0 h.2,
    )
    leaves true goes k (table_end.Stopped stop) h = stops_so stop.cause h.1 (stopped goes)
    leaves false goes k (table_end.Stopped stop) h = let no : false ≡ true = h.0 in absurd cc

    goes_so : (stopped_is : Bool) → GoesInChunks code roles budget piece old.flow new.flow stopped_is → new.name ≡ old.name →
        Tell q rs (q.state.nr + length items + length c) old.name.now ss cs →
        (k : ℕ) (end : Option TableEnd) → IsEndOf (left_view x.left) stopped_is k end → GoesSo q rs items out new ss (c ∷ cs) end
    goes_so s goes name others k (Some end) h = leaves s goes k end h
    goes_so true goes name others k None h = let no : true ≡ false = h.0 in absurd cc
    goes_so false goes name others k None h = goes_there goes.0 h.1 name others

  pub kept_section : (fnr : ℕ) (bytes : List ℕ) → piece.rs.now ≡ rs → piece.name.now ≡ old.name.now → piece.fnr ≡ fnr → piece.bytes.items ≡ bytes →
      GoesInChunks code roles budget piece old.flow new.flow x.is_stopped → new.name ≡ old.name →
      (k : ℕ) (end : Option TableEnd) → IsEndOf (left_view x.left) x.is_stopped k end →
      (chunks : List (List Item)) → Tell q rs (q.state.nr + length items) old.name.now (kept fnr bytes ∷ ss) chunks → GoesSo q rs items out new ss chunks end
  kept_section fnr bytes rs_is name_is fnr_is bytes_is goes name k end h [] told = absurd told
  kept_section fnr bytes rs_is name_is fnr_is bytes_is goes name k end h (c ∷ cs) told =
      let same : piece_items piece ≡ kept_records rs old.name.now fnr bytes = λ j. kept_records (rs_is j) (name_is j) (fnr_is j) (bytes_is j) in
      goes_so c cs told.0 (same ∙ told.1) x.is_stopped goes name told.2 k end h

-- No section after such a one is looked at.
pub last_so : (left : Left) (stopped : Bool) (k before now : ℕ) → k ≡ now - before → (end : Option TableEnd) → IsEndOf left stopped k end → IsLastIfAny before now end
last_so left stopped k before now is None h = tt
last_so left stopped k before now is (Some table_end.Through) h = absurd h
last_so left stopped k before now is (Some (table_end.Ended l)) h = tt
last_so left stopped k before now is (Some (table_end.Stopped stop)) h = h.2 ∙ is
