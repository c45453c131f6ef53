use Rattle.std.proofs.Common.{ℕ, ◌<◌, List, length, arith}
use Rattle.pawk_records.specs.Blocks.{joined}
use Rattle.pawk_input.specs.Input.{file_at, files_of}
use Rattle.pawk_input.specs.Plan.{sized, places_by_size}
use Rattle.pawk_records.proofs.BeginsLemmas.{length-records_by}
use Rattle.std.proofs.lemmas.Result.{err_from_is_err_and}
use Rattle.pawk_input.specs.Limits.{most_chunks}
use Rattle.pawk_input.proofs.DraftLemmas.{RefusesMany-longer}
use Rattle.pawk_input.proofs.PlanLemmas.{planned_fits, planned_turn, total_size_next, plan_at_end, picked_by_size}
use Rattle.pawk_input.proofs.PlacedLemmas.{adjoining_at_end}
use Rattle.pawk_input.proofs.plan.Plan.by_size.Goals as goal

pub loop-file-preserved : goal.loop-file-preserved
loop-file-preserved c =
    let rs = c.args.rs.now in
    let files = files_of c.args.input.now in
    let file = c.loop-file.file in
    let bytes = joined c.blocks-blocks.result in
    let size = c.args.bytes in
    let there : file < length files = omega arith in
    let chosen : ℕ → List ℕ → List ℕ = λ _ places. places_by_size (λ _. size) places in
    record {
      few = c.in_ok-add_by_size.ensures.few;
      room = omega (arith, total_size_next rs files chosen file c.loop-file.draft.nr bytes there c.blocks-blocks.ensures.value, c.in_ok-add_by_size.ensures.counted, length-records_by rs bytes);
      chunks = planned_turn rs files chosen file c.loop-file.draft.nr bytes there c.blocks-blocks.ensures.value c.add_by_size.new.self.nr c.loop-file.draft.chunks.items c.add_by_size.new.self.chunks.items (sized rs files size)
          c.in_ok-add_by_size.ensures.counted c.in_ok-add_by_size.ensures.chunks c.loop-file.invariant.chunks;
    }

pub returns-in_err-add_by_size-clause-refused : goal.returns-in_err-add_by_size-clause-refused
returns-in_err-add_by_size-clause-refused c =
    let e = err_from_is_err_and c.from_residual.result c.from_residual.ensures.1 in
    let bytes = joined c.blocks-blocks.result in
    let fits = planned_fits c.args.rs.now (files_of c.args.input.now) (λ _ places. places_by_size (λ _. c.args.bytes) places) c.loop-file.file c.loop-file.draft.nr bytes (omega arith) c.blocks-blocks.ensures.value c.loop-file.draft.chunks.items _ c.loop-file.invariant.chunks in
    rw (e.1, e.2) (RefusesMany-longer _ _ most_chunks c.in_err-add_by_size.field-0.0 (omega (arith, fits, c.loop-file.draft.chunks.ok.0)) c.in_err-add_by_size.ensures.refused)

pub returns-clause-plan : goal.returns-clause-plan
returns-clause-plan c =
    let rs = c.args.rs.now in
    let files = files_of c.args.input.now in
    let size = c.args.bytes in
    let picked = λ (j : ℕ). picked_by_size rs (λ _. size) (file_at files j).bytes in
    plan_at_end rs files (λ _ places. places_by_size (λ _. size) places) picked c.loop-file.file c.loop-file.draft.nr c.loop-file.draft.chunks.items (omega arith) c.loop-file.invariant.chunks

pub invariant_of-result : goal.invariant_of-result
invariant_of-result c =
    adjoining_at_end c.args.rs.now (λ _ places. places_by_size (λ _. c.args.bytes) places) (files_of c.args.input.now) c.loop-file.file c.loop-file.draft.nr c.loop-file.draft.chunks.items (omega arith) c.loop-file.invariant.chunks
