-- Ends that are the same but for the record, FNR and FILENAME, and how far records of a phase come.
use Rattle.std.proofs.Common.{◌≡◌, ℕ, ◌+◌, List, [], length, refl, ap, sym, ◌∙◌, subst, ⊎_elim, arith}
use Rattle.pawk_input.specs.Input.{Item}
use Rattle.pawk_store.specs.Globals.{Globals, calls}
use Rattle.pawk_store.specs.RecordStates.{RecordState}
use Rattle.pawk_store.specs.Records.{through, End}
use Rattle.pawk_frozen.specs.Frozens.{blank_world, calls as chunk_calls}
use Rattle.pawk_store.specs.Steady.{AreSameButRecord, status_after, state_after_records, RecordsKeepLaw}
use Rattle.pawk_commute.specs.Settings.{PermitsFor}
use Rattle.pawk_commute.proofs.OrderLemmas.{chunk_final}
use Rattle.pawk_commute.proofs.TracedLemmas.{plain_final}
use Rattle.pawk_merge.specs.Merges.{Chunk}
use Rattle.pawk_merge_law.specs.Phases.{Phase, MayRun, opening, in_order, FaultsOrCreates}
use Rattle.pawk_merge_law.specs.ChunkedRuns.{chunk_end, IsTold}
use Rattle.pawk_merge_law.proofs.OpeningLemmas.{steady, state_at, state_after_items}
use Rattle.pawk_shards.specs.Apart.{AreEndsButRecord, HasCome, EndsSo}

-- ---- the same but for the record

-- Two states that are both the same as a third are the same.
pub same_both : (s t u : RecordState) → AreSameButRecord s t → AreSameButRecord s u → AreSameButRecord t u
same_both s t u h k = k ∙ sym (ap (λ (x : RecordState). record x { line = u.line; fnr = u.fnr; name = u.name }) h)

-- A state that is the same as one that is the same as the first is the same as this.
pub same_then : (s t u : RecordState) → AreSameButRecord s t → AreSameButRecord t u → AreSameButRecord s u
same_then s t u h k = k ∙ ap (λ (x : RecordState). record x { line = u.line; fnr = u.fnr; name = u.name }) h

-- The same of ends.
pub ends_then : (d e f : End Globals) → AreEndsButRecord d e → AreEndsButRecord e f → AreEndsButRecord d f
ends_then d e f h k = (
  k.0 ∙ ap (λ (x : End Globals). record x { state = f.state }) h.0,
  same_then d.state e.state f.state h.1 k.1,
)

-- An end is the same as itself.
pub ends_itself : (e f : End Globals) → e ≡ f → AreEndsButRecord e f
ends_itself e f h = subst (λ x. AreEndsButRecord e x) h (refl, refl)

-- ---- before the first record

none_bad : (p : Phase) → ¬ FaultsOrCreates p []
none_bad p h = ⊎_elim (λ k. k) (λ k. absurd (omega (arith, k.3.1))) h

pub opens : (p : Phase) → HasCome p [] (opening p)
opens p = record {
  ends = refl;
  left = refl;
  state = ap (λ n. record p.state { nr = n }) (let none : p.state.nr ≡ p.state.nr + 0 = omega arith in none);
  harmless = none_bad p;
}

-- ---- how far records come

module _ (p : Phase) (may : MayRun p) (keep : RecordsKeepLaw (PermitsFor p.code p.roles) calls) where
  -- After records that were left through the state is that of BEGIN with NR moved on, but for the record.
  pub state_kept : (items : List Item) → (in_order p items).left ≡ through → AreSameButRecord (state_at p (p.state.nr + length items)) (in_order p items).state
  state_kept items on =
      let k = keep (steady p) plain_final p.eres p.code may.allows p.budget items (opening p) refl in
      state_after_items p p.state.nr items k.read (in_order p items).left (in_order p items).state on (k.all_read on) k.state

  -- The end to which a run has come was left through by the records in order.
  pub come_through : (items : List Item) (e : End Globals) → HasCome p items e → (in_order p items).left ≡ through
  come_through items e come = sym (ap (λ (x : End Globals). x.left) come.ends) ∙ come.left

  -- It is the end of these but for the record.
  pub come_ends : (items : List Item) (e : End Globals) → HasCome p items e → AreEndsButRecord (in_order p items) e
  come_ends items e come = (
    come.ends,
    same_both (state_at p (p.state.nr + length items)) (in_order p items).state e.state (state_kept items (come_through items e come)) come.state,
  )

  -- Where records end so and are left through, a run has come so far.
  pub comes : (items : List Item) (e : End Globals) → AreEndsButRecord (in_order p items) e → (¬ FaultsOrCreates p items) → e.left ≡ through → HasCome p items e
  comes items e ends none on = record {
    ends = ends.0;
    left = on;
    state = same_then (state_at p (p.state.nr + length items)) (in_order p items).state e.state
        (state_kept items (sym (ap (λ (x : End Globals). x.left) ends.0) ∙ on)) ends.1;
    harmless = none;
  }

  pub ends_so : (items : List Item) (e : End Globals) → AreEndsButRecord (in_order p items) e → (¬ FaultsOrCreates p items) → EndsSo p items e
  ends_so items e ends none = record { ends = ends; harmless = none; goes_on = λ on. comes items e ends none on }

  pub come_so : (items : List Item) (e : End Globals) → HasCome p items e → EndsSo p items e
  come_so items e come = record { ends = come_ends items e come; harmless = come.harmless; goes_on = λ _. come }

-- ---- what a chunk leaves

-- The record state that a chunk leaves, but for the record, FNR and FILENAME.
pub leaves : (p : Phase) → MayRun p → RecordsKeepLaw (PermitsFor p.code p.roles) chunk_calls → (nr : ℕ) (chunk : List Item) (c : Chunk) → IsTold p nr chunk c →
    (read : ℕ) × AreSameButRecord (record p.state { nr = nr + read; status = status_after p.state.status c.left }) c.state × (c.left ≡ through → read ≡ length chunk)
leaves p may keep nr chunk c told =
    let state = told.0 in
    let f = chunk_end p state chunk in
    let k = keep (steady p) chunk_final p.eres p.code may.allows p.budget chunk (record { world = blank_world p.globals p.roles; state = state; output = []; left = through }) refl in
    let n = length k.read in
    subst (λ (d : Chunk). (read : ℕ) × AreSameButRecord (record p.state { nr = nr + read; status = status_after p.state.status d.left }) d.state × (d.left ≡ through → read ≡ length chunk))
    (sym told.2)
    (n, k.state ∙ ap (λ s. state_after_records n f.left s f.state) told.1, λ on. sym (ap (λ (is : List Item). length is) (k.all_read on)))
