use Rattle.std.proofs.Common.{◌≡◌, ℕ, ◌<◌, List, length, take, drop, ap, sym, ◌∙◌, arith}
use Rattle.pawk_records.specs.Blocks.{joined}
use Rattle.pawk_input.specs.Input.{file_at, files_of}
use Rattle.pawk_input.specs.Counts.{blocks_of}
use Rattle.pawk_input.specs.Plan.{bytes_before, places_by_size, size_in_file, stepped}
use Rattle.pawk_records.proofs.BeginsLemmas.{length-records_by}
use Rattle.std.proofs.lemmas.Result.{err_from_is_err_and}
use Rattle.pawk_input.specs.Limits.{most_chunks}
use Rattle.pawk_input.proofs.DraftLemmas.{RefusesMany-longer}
use Rattle.pawk_input.proofs.PlanLemmas.{planned_fits, planned_turn, total_size_next, plan_at_end, picked_by_size}
use Rattle.pawk_input.proofs.StepLemmas.{bytes_before_next}
use Rattle.pawk_input.proofs.CountLemmas.{enough_left, counts_here, counts_later}
use Rattle.pawk_input.proofs.PlacedLemmas.{adjoining_at_end}
use Rattle.pawk_input.proofs.plan.Plan.by_steps.Goals as goal

pub split_at-requires : goal.split_at-requires
split_at-requires c =
    let bytes = joined c.blocks-blocks.result in
    let block = c.args.block in
    let count : c.block_number.result ≡ blocks_of block (length bytes) (length bytes) = c.block_number.ensures ∙ ap (λ n. blocks_of block n n) (c.size-size.ensures ∙ ap length (sym c.blocks-blocks.ensures.value)) in
    omega (arith, count, enough_left c.args.rs.now c.args.block c.requires.block (files_of c.args.input.now) c.loop-file.file (joined c.blocks-blocks.result) c.loop-file.left.now (omega arith) c.blocks-blocks.ensures.value c.loop-file.invariant.counts)

pub add_by_counts-requires-clause-counts : goal.add_by_counts-requires-clause-counts
add_by_counts-requires-clause-counts c =
    let bytes = joined c.blocks-blocks.result in
    let block = c.args.block in
    let count : c.block_number.result ≡ blocks_of block (length bytes) (length bytes) = c.block_number.ensures ∙ ap (λ n. blocks_of block n n) (c.size-size.ensures ∙ ap length (sym c.blocks-blocks.ensures.value)) in
    c.split_at.ensures.front ∙ ap (λ n. take n c.loop-file.left.now) count
    ∙ counts_here c.args.rs.now c.args.block c.requires.block (files_of c.args.input.now) c.loop-file.file (joined c.blocks-blocks.result) c.loop-file.left.now (omega arith) c.blocks-blocks.ensures.value c.loop-file.invariant.counts

pub loop-file-preserved : goal.loop-file-preserved
loop-file-preserved c =
    let rs = c.args.rs.now in
    let files = files_of c.args.input.now in
    let file = c.loop-file.file in
    let bytes = joined c.blocks-blocks.result in
    let block = c.args.block in
    let count : c.block_number.result ≡ blocks_of block (length bytes) (length bytes) = c.block_number.ensures ∙ ap (λ n. blocks_of block n n) (c.size-size.ensures ∙ ap length (sym c.blocks-blocks.ensures.value)) in
    let steps = c.args.steps.now in
    let there : file < length files = omega arith in
    let chosen : ℕ → List ℕ → List ℕ = λ k. places_by_size (size_in_file c.args.bytes steps (bytes_before files k)) in
    record {
      few = c.in_ok-add_by_counts.ensures.few;
      before = omega (arith, c.loop-file.invariant.before, bytes_before_next files file bytes there c.blocks-blocks.ensures.value, c.size-size.ensures, ap length (sym c.blocks-blocks.ensures.value));
      place = omega (arith, c.loop-file.invariant.place, total_size_next rs files chosen file c.loop-file.draft.nr bytes there c.blocks-blocks.ensures.value, c.size-size.ensures, ap length (sym c.blocks-blocks.ensures.value));
      counts = c.split_at.ensures.back ∙ ap (λ n. drop n c.loop-file.left.now) count
          ∙ counts_later rs c.args.block c.requires.block files file bytes c.loop-file.left.now there c.blocks-blocks.ensures.value c.loop-file.invariant.counts;
      room = omega (arith, total_size_next rs files chosen file c.loop-file.draft.nr bytes there c.blocks-blocks.ensures.value, c.in_ok-add_by_counts.ensures.counted, length-records_by rs bytes);
      chunks = planned_turn rs files chosen file c.loop-file.draft.nr bytes there c.blocks-blocks.ensures.value c.add_by_counts.new.self.nr c.loop-file.draft.chunks.items c.add_by_counts.new.self.chunks.items (stepped rs files c.args.bytes steps)
          c.in_ok-add_by_counts.ensures.counted (rw c.loop-file.invariant.before at c.in_ok-add_by_counts.ensures.chunks) c.loop-file.invariant.chunks;
    }

pub returns-in_err-add_by_counts-clause-refused : goal.returns-in_err-add_by_counts-clause-refused
returns-in_err-add_by_counts-clause-refused c =
    let e = err_from_is_err_and c.from_residual.result c.from_residual.ensures.1 in
    let bytes = joined c.blocks-blocks.result in
    let fits = planned_fits c.args.rs.now (files_of c.args.input.now) (λ k. places_by_size (size_in_file c.args.bytes c.args.steps.now (bytes_before (files_of c.args.input.now) k))) c.loop-file.file c.loop-file.draft.nr bytes (omega arith) c.blocks-blocks.ensures.value c.loop-file.draft.chunks.items _ c.loop-file.invariant.chunks in
    rw (e.1, e.2) (RefusesMany-longer _ _ most_chunks c.in_err-add_by_counts.field-0.0 (omega (arith, fits, c.loop-file.draft.chunks.ok.0)) (rw c.loop-file.invariant.before at c.in_err-add_by_counts.ensures.refused))

pub returns-clause-plan : goal.returns-clause-plan
returns-clause-plan c =
    let rs = c.args.rs.now in
    let files = files_of c.args.input.now in
    let steps = c.args.steps.now in
    let picked = λ (j : ℕ). picked_by_size rs (size_in_file c.args.bytes steps (bytes_before files j)) (file_at files j).bytes in
    plan_at_end rs files (λ k. places_by_size (size_in_file c.args.bytes steps (bytes_before files k))) picked c.loop-file.file c.loop-file.draft.nr c.loop-file.draft.chunks.items (omega arith) c.loop-file.invariant.chunks

pub invariant_of-result : goal.invariant_of-result
invariant_of-result c =
    let files = files_of c.args.input.now in
    adjoining_at_end c.args.rs.now (λ k. places_by_size (size_in_file c.args.bytes c.args.steps.now (bytes_before files k))) files c.loop-file.file c.loop-file.draft.nr c.loop-file.draft.chunks.items (omega arith) c.loop-file.invariant.chunks
