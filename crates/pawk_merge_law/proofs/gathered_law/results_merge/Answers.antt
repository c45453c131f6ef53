use Rattle.std.proofs.Common.{◌≡◌, sym, subst, map}
use Rattle.std.specs.Prelude.{MatchResult, List}
use Rattle.std.specs.List.{flat_map}
use Rattle.pawk_input.specs.Input.{Item}
use Rattle.pawk_input.specs.Plan.{chunk_items}
use Rattle.pawk_merge.specs.Merges.{before_chunks, merge}
use Rattle.pawk_merge.specs.MergeViews.{chunk_of}
use Rattle.pawk_merge_law.specs.Phases.{in_order, FaultsOrCreates}
use Rattle.pawk_merge_law.specs.Gathered.{AreNumbered, after_output, phase_of}
use Rattle.pawk_merge_law.proofs.NumberLemmas.{all_numbered}
use Rattle.pawk_merge_law.proofs.gathered_law.results_merge.Goals as goal

pub returns : goal.returns
returns c = λ o written may none rs files plan is results are.
    let p = phase_of o written in
    let numbered = subst (λ all. AreNumbered 0 all) (sym is.whole) (all_numbered rs 0 0 files) in
    let law = c.results_merge_from.ensures o written may rs files plan is.each (subst (λ n. AreNumbered n (flat_map (chunk_items rs files) plan)) (sym none) numbered) results are in
    subst (λ (all : List Item). MatchResult (merge (map chunk_of results) (before_chunks o.globals o.state)) (λ e. (in_order p all ≡ after_output written e) × ¬ FaultsOrCreates p all) (λ stop. FaultsOrCreates p all)) is.whole law
