use Rattle.std.proofs.Common.{◌≡◌, ℕ, ◌∙◌, ap, sym, subst, map}
use Rattle.std.specs.Prelude.{MatchResult, List}
use Rattle.std.specs.List.{flat_map}
use Rattle.std.proofs.lemmas.List.{append-nil}
use Rattle.std.proofs.lemmas.List.Folds.{flat_map-map}
use Rattle.pawk_input.specs.Input.{Item}
use Rattle.pawk_input.specs.Plan.{chunk_items}
use Rattle.pawk_store.specs.Records.{through}
use Rattle.pawk_merge.specs.Merges.{before_chunks, merge}
use Rattle.pawk_merge.specs.MergeViews.{chunk_of}
use Rattle.pawk_merge_law.specs.Phases.{in_order, opening, FaultsOrCreates}
use Rattle.pawk_merge_law.specs.Gathered.{phase_of}
use Rattle.pawk_merge_law.proofs.ResultLemmas.{each_has, ran}
use Rattle.pawk_merge_law.proofs.MergeLemmas.{with_front, merge_after, without_front}
use Rattle.pawk_merge_law.proofs.gathered_law.results_merge_from.Goals as goal

pub returns : goal.returns
returns c = λ o written may rs files plan each numbered results are.
    let p = phase_of o written in
    let all = flat_map (chunk_items rs files) plan in
    let chunks = map (chunk_items rs files) plan in
    let told = map chunk_of results in
    let begin = before_chunks o.globals o.state in
    let same : merge told (opening p) ≡ with_front written (merge told begin) =
    ap (λ (out : List ℕ). merge told (record { world = o.globals; state = o.state; output = out; left = through })) (sym (append-nil written)) ∙ merge_after written told begin in
    let law = c.chunks_merge.ensures p may chunks told (each_has o written rs files plan each) (ran o written rs files plan results o.state.nr numbered each are) in
    without_front written (λ e. (in_order p all ≡ e) × ¬ FaultsOrCreates p all) (λ stop. FaultsOrCreates p all) (merge told begin)
    (subst (λ r. MatchResult r (λ e. (in_order p all ≡ e) × ¬ FaultsOrCreates p all) (λ stop. FaultsOrCreates p all)) same
    (subst (λ (l : List Item). MatchResult (merge told (opening p)) (λ e. (in_order p l ≡ e) × ¬ FaultsOrCreates p l) (λ stop. FaultsOrCreates p l))
    (flat_map-map (λ (items : List Item). items) (chunk_items rs files) plan) law))
