-- Runs in steps.
use Rattle.std.proofs.Common.{◌≡◌, ◌+◌, List, [], ◌∷◌, ◌++◌, length, Result, append_assoc, refl, ap, sym, ◌∙◌, subst}
use Rattle.std.specs.Prelude.{MatchResult, flat_map}
use Rattle.std.proofs.lemmas.List.{append-nil}
use Rattle.pawk_input.specs.Input.{Item}
use Rattle.pawk_store.specs.Globals.{Globals}
use Rattle.pawk_store.specs.Records.{through, End}
use Rattle.pawk_merge.specs.Merges.{Stop}
use Rattle.pawk_merge_law.specs.Phases.{Phase, MayRun, opening, in_order, FaultsOrCreates}
use Rattle.pawk_merge_law.specs.ChunkedRuns.{all_of}
use Rattle.pawk_shards.specs.Apart.{AreEndsButRecord, HasCome, EndsSo, ApartLaw, WholeLaw, InTurnLaw, LaterLaw}
use Rattle.pawk_shards.specs.Steps.{Step, apart, in_turn, records_in, IsStep, StepsTo, Stops, RunsThrough, IsWhole, StepRecordsLaw, MoreStepsLaw, Shard, steps_of, records_of}
use Rattle.pawk_shards.proofs.TurnLemmas.{by_left}

-- ---- steps after steps

pub more_steps : MoreStepsLaw
more_steps p items e [] some m h more all f k =
    subst (λ x. RunsThrough p x e more all f) (sym h.0) (subst (λ x. RunsThrough p some x more all f) (sym h.1) k)
more_steps p items e (s ∷ ss) some m h more all f k =
    (h.0, h.1, (h.2.0, h.2.1, more_steps p (items ++ records_in s) h.2.0 ss some m h.2.2 more all f k))

pub step_records : StepRecordsLaw
step_records p items e [] all f h = sym h.0 ∙ sym (append-nil items)
step_records p items e (s ∷ ss) all f h =
    step_records p (items ++ records_in s) h.2.0 ss all f h.2.2
    ∙ append_assoc items (records_in s) (flat_map records_in ss)

-- the laws that the others stand on
pub record Laws : Type 0 where
  pub apart : ApartLaw
  pub whole : WholeLaw
  pub turn : InTurnLaw
  pub later : LaterLaw

module _ (p : Phase) (may : MayRun p) (law : Laws) where
  -- ---- one step

  -- what is met by these records
  abbrev Met : List Item → Result (End Globals) Stop → Type 0
  Met all r = MatchResult r (EndsSo p all) (λ stop. FaultsOrCreates p all)

  step_so : (items : List Item) (e : End Globals) → HasCome p items e → (s : Step) (f : End Globals) → IsStep p (p.state.nr + length items) s → StepsTo p e s f → EndsSo p (items ++ records_in s) f
  step_so items e come (apart chunks results) f is to =
      subst (λ r. Met (items ++ all_of chunks) r) to (law.apart p may items e come chunks results is.0 is.1)
  step_so items e come (in_turn more) f is to =
      subst (λ x. EndsSo p (items ++ more) x) to.0 ((law.turn p may items e come more is).ends_so to.1)

  step_stops : (items : List Item) (e : End Globals) → HasCome p items e → (s : Step) → IsStep p (p.state.nr + length items) s → Stops p e s → FaultsOrCreates p (items ++ records_in s)
  step_stops items e come (apart chunks results) is stops =
      subst (λ r. Met (items ++ all_of chunks) r) stops.1 (law.apart p may items e come chunks results is.0 is.1)
  step_stops items e come (in_turn more) is stops = (law.turn p may items e come more is).faults.1 stops

  step_exactly : (items : List Item) (e : End Globals) → HasCome p items e → (s : Step) (f : End Globals) → IsStep p (p.state.nr + length items) s → IsWhole p (p.state.nr + length items) s → StepsTo p e s f → in_order p (items ++ records_in s) ≡ f
  step_exactly items e come (apart chunks results) f is known to = law.whole p may items e come chunks results is.0 known.1 known.0 f to
  step_exactly items e come (in_turn more) f is known to = sym (law.turn p may items e come more is).ends ∙ to.0

  -- ---- all steps

  -- All records end so: a run has come to each step.
  all_so : (steps : List Step) (items : List Item) (e : End Globals) → EndsSo p items e → (all : List Item) (f : End Globals) → RunsThrough p items e steps all f → EndsSo p all f
  all_so [] items e ends all f h = subst (λ is. EndsSo p is f) h.0 (subst (λ x. EndsSo p items x) h.1 ends)
  all_so (s ∷ ss) items e ends all f h =
      all_so ss (items ++ records_in s) h.2.0 (step_so items e (ends.goes_on h.0) s h.2.0 h.1 h.2.1) all f h.2.2

  -- what follows records that ended a run
  later_so : (all : List Item) (f : End Globals) → EndsSo p all f → (later : List Item) → (f.left ≡ through → later ≡ []) → EndsSo p (all ++ later) f
  later_so all f so later none =
      by_left f.left (EndsSo p (all ++ later) f)
      (λ on. subst (λ is. EndsSo p is f) (sym (ap (λ is. all ++ is) (none on) ∙ append-nil all)) so)
      (λ closed.
      let stays = (law.later p may all later).1 (λ on. closed (ap (λ (x : End Globals). x.left) so.ends.0 ∙ on)) in
      record {
        ends = subst (λ x. AreEndsButRecord x f) (sym stays.0) so.ends;
        harmless = λ h. so.harmless (stays.1.0 h);
        goes_on = λ on. absurd (closed on);
      })

  module _ (items : List Item) (e : End Globals) (so : EndsSo p items e) (steps : List Step) (all : List Item) where
    pub steps_end : (f : End Globals) → RunsThrough p items e steps all f → (later : List Item) → (f.left ≡ through → later ≡ []) → EndsSo p (all ++ later) f
    steps_end f h later none = later_so all f (all_so steps items e so all f h) later none

    module _ (m : End Globals) (h : RunsThrough p items e steps all m) (on : m.left ≡ through) (s : Step) (is : IsStep p (p.state.nr + length all) s) where
      come : HasCome p all m
      come = (all_so steps items e so all m h).goes_on on

      pub last_step : IsWhole p (p.state.nr + length all) s → (f : End Globals) → StepsTo p m s f → in_order p (all ++ records_in s) ≡ f
      last_step known f to = step_exactly all m come s f is known to

      pub stop : Stops p m s → (later : List Item) → FaultsOrCreates p (all ++ records_in s ++ later)
      stop stops later = (law.later p may (all ++ records_in s) later).0 (step_stops all m come s is stops)

  -- ---- shards

  shards_exactly : (shards : List Shard) (items : List Item) (e : End Globals) → EndsSo p items e → in_order p items ≡ e → (all : List Item) (f : End Globals) → RunsThrough p items e (flat_map steps_of shards) all f → in_order p all ≡ f
  shards_exactly [] items e so is all f h = ap (λ x. in_order p x) (sym h.0) ∙ is ∙ h.1
  shards_exactly (s ∷ ss) items e so is all f h =
      let some = items ++ all_of s.parts in
      let m = h.2.0 in
      let there = step_so items e (so.goes_on h.0) (apart s.parts s.results) m h.1 h.2.1 in
      let k = h.2.2 in
      let next = step_so some m (there.goes_on k.0) (in_turn (s.last ∷ [])) k.2.0 k.1 k.2.1 in
      shards_exactly ss (some ++ s.last ∷ []) k.2.0 next
      (step_exactly some m (there.goes_on k.0) (in_turn (s.last ∷ [])) k.2.0 k.1 tt k.2.1)
      all f k.2.2

shard_records : (shards : List Shard) → flat_map records_in (flat_map steps_of shards) ≡ flat_map records_of shards
shard_records [] = refl
shard_records (s ∷ ss) =
    sym (append_assoc (all_of s.parts) (s.last ∷ []) (flat_map records_in (flat_map steps_of ss)))
    ∙ ap (λ is. records_of s ++ is) (shard_records ss)

pub shards_end : (p : Phase) (may : MayRun p) (law : Laws) → EndsSo p [] (opening p) → (shards : List Shard) (all : List Item) (f : End Globals) → RunsThrough p [] (opening p) (flat_map steps_of shards) all f → (all ≡ flat_map records_of shards) × (in_order p all ≡ f) × ¬ FaultsOrCreates p all
shards_end p may law so shards all f h = (
  step_records p [] (opening p) (flat_map steps_of shards) all f h ∙ shard_records shards,
  shards_exactly p may law shards [] (opening p) so refl all f h,
  (all_so p may law (flat_map steps_of shards) [] (opening p) so all f h).harmless,
)
