-- A piece whose records are run over globals that keep a trace.
use Rattle.std.proofs.Common.{◌≡◌, ◌∙◌, ℕ, Bool, true, false, List, [], None, refl, ap, sym, subst, inl, inr}
use Rattle.std.specs.Prelude.{◌⊎◌}
use Rattle.pawk_code.specs.Programs.{Code}
use Rattle.pawk_input.specs.Input.{Item}
use Rattle.pawk_store.specs.Globals.{Globals, calls}
use Rattle.pawk_admit.specs.Roles.{Roles}
use Rattle.pawk_store.specs.Records.{End}
use Rattle.pawk_store.specs.Runs.{records_from}
use Rattle.pawk_store.specs.LeftViews.{left_view}
use Rattle.pawk_merge_law.specs.Traces.{Traced, traced}
use Rattle.pawk_merge_law.specs.TracedRuns.{TracedLaw, plain}
use Rattle.pawk_merge_law.specs.Phases.{Phase, MayRun, CreatesElement, FaultsOrCreates, IsFault, in_order, in_order_traced, traced_opening}
use Rattle.pawk_merge_law.specs.Windows.{MayRunOnLaw, phase_at}
use Rattle.pawk_pieces.specs.Pieces.{GoesInChunks, passed_end, phase_between, piece_end, piece_items}
use Rattle.pawk_flow.specs.Stages.{flow_end}
use Rattle.pawk_pieces.specs.declared.flow.Flow.{Flow}
use Rattle.pawk_pieces.specs.declared.piece.Piece.{Piece}
use Rattle.pawk_pieces.specs.declared.piece.PieceEnd.{PieceEnd}

-- A test says whether one of two facts holds.
abbrev pub Tests : Bool → Type 0 → Type 0 → Type 0
Tests b F C = (b ≡ true → F ⊎ C) × (b ≡ false → (F ⊎ C) → ⊥)

-- It does where it holds, and the first fact does.
pub by_first : (F C : Type 0) (b : Bool) → b ≡ true → F → Tests b F C
by_first F C b is h = (λ yes. inl h, λ other either. let bad = sym is ∙ other in absurd cc)

-- It does where the first does not hold, and it is a test of the second.
pub by_second : (F C : Type 0) (f c b : Bool) → f ≡ false → b ≡ c → (F → f ≡ true) → (c ≡ true → C) → (C → c ≡ true) → Tests b F C
by_second F C f c b none is first second other = (λ yes. inr (second (sym is ∙ yes)), λ off either. by off either)
  where
    by : b ≡ false → (F ⊎ C) → ⊥
    by off (inl h) = let bad = sym none ∙ first h in absurd cc
    by off (inr h) = let bad = sym off ∙ is ∙ other h in absurd cc

-- From globals without a trace, w, the records of a piece leave this world and end so.
module _ (law : TracedLaw) (code : Code) (roles : Roles) (budget : ℕ) (piece : Piece) (old new : Flow) (w v : Traced) (end x : PieceEnd)
    (begins : w ≡ record { globals = old.globals; trace = [] })
    (ends : records_from (traced calls) code.expressions code budget None (flow_end w old.state) (piece_items piece) ≡ passed_end v new.state end)
    (globals : new.globals ≡ v.globals) (same : passed_end new.globals new.state end ≡ piece_end new x) where
  abbrev p : Phase
  p = phase_between code roles budget old

  abbrev items : List Item
  items = piece_items piece

  -- They end so with a trace.
  traced_ends : in_order_traced p items ≡ passed_end v new.state end
  traced_ends = ap (λ (s : Traced). records_from (traced calls) code.expressions code budget None (flow_end s old.state) items) (sym begins) ∙ ends

  -- Without one they end as the piece does.
  pub plain_ends : in_order p items ≡ piece_end new x
  plain_ends =
      sym (law p.eres code budget None items (traced_opening p)) ∙ ap plain traced_ends
      ∙ ap (λ (g : Globals). passed_end g new.state end) (sym globals) ∙ same

  -- Whether they fault or create an element is told by how the last was left, and by the trace.
  abbrev Stops : Type 0
  Stops = IsFault (left_view x.left) ⊎ CreatesElement roles v.trace

  stops_to : Stops → FaultsOrCreates p items
  stops_to (inl h) = inl (subst (λ (e : End Globals). IsFault e.left) (sym plain_ends) h)
  stops_to (inr h) = inr (subst (λ (e : End Traced). CreatesElement roles e.world.trace) (sym traced_ends) h)

  stops_from : FaultsOrCreates p items → Stops
  stops_from (inl h) = inl (subst (λ (e : End Globals). IsFault e.left) plain_ends h)
  stops_from (inr h) = inr (subst (λ (e : End Traced). CreatesElement roles e.world.trace) traced_ends h)

  module _ (run_on : MayRunOnLaw) (may : MayRun p) where
    -- Where they do neither, the next piece may be run in chunks.
    may_run : (Stops → ⊥) → MayRun (phase_between code roles budget new)
    may_run goes =
        let h : MayRun (phase_at p (piece_end new x)) = subst (λ e. MayRun (phase_at p e)) plain_ends (run_on p may items (λ bad. goes (stops_from bad))) in
        record { allows = h.allows; role_slots = h.role_slots; in_order = h.in_order; numbers = h.numbers }

    -- So the piece goes as it would in chunks.
    pub goes : (b : Bool) → Tests b (IsFault (left_view x.left)) (CreatesElement roles v.trace) → GoesInChunks code roles budget piece old new b
    goes true tests = stops_to (tests.0 refl)
    goes false tests = (λ bad. tests.1 refl (stops_from bad), may_run (tests.1 refl))
