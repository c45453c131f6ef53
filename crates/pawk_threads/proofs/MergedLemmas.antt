-- What a merge of the chunks says of the records after BEGIN.
use Rattle.std.proofs.Common.{◌≡◌, ◌∙◌, ℕ, ◌≤◌, Bool, true, false, List, length, map, Result, Ok, Err, Some, None, refl, ap, sym, subst}
use Rattle.std.specs.Prelude.{MatchResult}
use Rattle.pawk_code.specs.Programs.{Code}
use Rattle.pawk_input.specs.Input.{File, items}
use Rattle.pawk_store.specs.Globals.{Globals, calls}
use Rattle.pawk_input.specs.Plan.{IsPlanOf}
use Rattle.pawk_input.specs.declared.cutting.Chunk.{Chunk}
use Rattle.pawk_admit.specs.Admission.{IsAdmissible, AreRoles}
use Rattle.pawk_admit.specs.Reaches.{Occurs}
use Rattle.pawk_admit.specs.Roles.{Roles}
use Rattle.pawk_store.specs.Records.{End, Left}
use Rattle.pawk_store.specs.Runs.{records_from, after_records, records_by_rs}
use Rattle.pawk_merge.specs.Merges.{Stop, at_cell, at_fault, at_clash, merge, before_chunks}
use Rattle.pawk_merge.specs.MergeViews.{chunk_of, stop_of}
use Rattle.pawk_merge.specs.declared.chunk_result.ChunkResult.{ChunkResult}
use Rattle.pawk_merge.specs.declared.stop.JoinStop.{JoinStop}
use Rattle.pawk_merge.specs.declared.stop.JoinStop.TheVariants.{Cell, Fault, Clash, Memory}
use Rattle.pawk_merge_law.specs.Chunks.{Opening, chunk_end, AreResults}
use Rattle.pawk_merge_law.specs.Ready.{MayRunFrom}
use Rattle.pawk_merge_law.specs.Phases.{Phase, FaultsOrCreates, in_order}
use Rattle.pawk_merge_law.specs.Gathered.{after_output, ResultsLaw}
use Rattle.pawk_routes.specs.declared.report.Refusal.TheVariants as refusal
use Rattle.pawk_routes.specs.Prologue.{IsTaken}
use Rattle.pawk_routes.specs.Routes.{phase_after}
use Rattle.pawk_routes.proofs.EndLemmas.{phase_of_end, by_taken}

-- a refused allocation is no refusal for a cutting
pub no_cutting : refusal.Memory ≡ refusal.Cutting → ⊥
no_cutting same = absurd cc

-- a stop that is no refused allocation is one of the merge
pub stop_told : (b : Bool) (stop : JoinStop) → b ≡ false → (stop ≡ Memory → b ≡ true) → (s : Stop) × (stop_of stop ≡ Some s)
stop_told b Cell off on = (at_cell, refl)
stop_told b Fault off on = (at_fault, refl)
stop_told b Clash off on = (at_clash, refl)
stop_told b Memory off on = let bad = sym off ∙ on refl in absurd cc

module _ (code : Code) (roles : Roles) (budget : ℕ) (rs : List ℕ) (files : List File) (e : End Globals) (taken : IsTaken rs e) where
  abbrev phase : Phase
  phase = record { code = code; roles = roles; eres = code.expressions; budget = budget; globals = e.world; state = e.state; output = e.output }

  abbrev pub Law : Result (End Globals) Stop → Type 0
  Law r =
      MatchResult r
      (λ x. (in_order phase (items rs files) ≡ after_output e.output x) × ¬ FaultsOrCreates phase (items rs files))
      (λ stop. FaultsOrCreates phase (items rs files))

  abbrev Stops : Phase → Type 0
  Stops p = FaultsOrCreates p (items rs files)

  pub merged : (r : Result (End Globals) Stop) (x : End Globals) → length rs ≤ 1 → Law r → r ≡ Ok x →
      (records_by_rs calls code.expressions code budget rs files e ≡ after_records calls code.expressions code budget x.left (after_output e.output x))
      × (Stops (phase_after code roles budget e) → ⊥)
  merged r x few law is =
      let l = subst Law is law in
      let records : Left → End Globals = λ left. records_from calls code.expressions code budget None (record e { left = left }) (items rs files) in (
        by_taken code budget rs files e (after_output e.output x) few taken (ap records taken.came ∙ l.0),
        λ stops. l.1 (subst Stops (phase_of_end code roles budget rs e taken) stops),
      )

  pub stopped : (r : Result (End Globals) Stop) (s : Stop) → Law r → r ≡ Err s → Stops (phase_after code roles budget e)
  stopped r s law is = subst Stops (sym (phase_of_end code roles budget rs e taken)) (subst Law is law)

  abbrev begins : Opening
  begins = record { code = code; budget = budget; globals = e.world; roles = roles; state = e.state }

  -- the law holds of the results of these chunks
  pub law_of : ResultsLaw → MayRunFrom roles e.world → IsAdmissible code → AreRoles (Occurs code) roles →
      (plan : List Chunk) → IsPlanOf rs files plan → (results : List ChunkResult) → AreResults (chunk_end begins rs files) plan results →
      Law (merge (map chunk_of results) (before_chunks e.world e.state))
  law_of law may admissible are plan planned results ran =
      law begins e.output (may code admissible are code.expressions budget e.state e.output) taken.unread rs files plan planned results ran
