use Rattle.std.proofs.Common.{◌≡◌, ◌+◌, ◌<◌, ◌≤◌, ◌++◌, length, take, drop, vec_len, refl, ap, sym, ◌∙◌, arith, length-append}
use Rattle.std.proofs.lemmas.Result.{err_from_is_err_and}
use Rattle.std.specs.List.{prefix_len}
use Rattle.pawk_records.specs.Blocks.{joined}
use Rattle.pawk_input.specs.Input.{files_of}
use Rattle.pawk_input.specs.Limits.{most_chunks}
use Rattle.pawk_records.specs.Records.{records_by}
use Rattle.pawk_records.specs.Begins.{begins_by}
use Rattle.pawk_input.specs.Plan.{chunks_at, cut_at, cut_places, offsets, chunks_of}
use Rattle.pawk_records.proofs.BeginsLemmas.{length-records_by}
use Rattle.pawk_input.proofs.PlanLemmas.{planned_next, planned_turn, total_size_next, plan_at_end}
use Rattle.pawk_input.proofs.DraftLemmas.{RefusesMany-longer}
use Rattle.pawk_input.proofs.CutPlanLemmas.{is_here, FilesRise-from_start, FilesRise-later, offsets_first, offsets_here, offsets_later, cut_places-same, rises_at_cuts, picked_at_cuts}
use Rattle.pawk_input.proofs.PlacedLemmas.{adjoining_at_end}
use Rattle.pawk_input.proofs.plan.Plan.at.Goals as goal

pub loop-file-init : goal.loop-file-init
loop-file-init c = record {
  few = omega (arith, c.new-draft.result.chunks.ok.0, ap length c.new-draft.ensures.chunks);
  room = omega (arith, c.new-draft.ensures.nr, c.files-file-end.ensures.limited);
  ordered = FilesRise-from_start c.args.rs.now (files_of c.args.input.now) c.args.cuts.now c.in_ok-check_cuts.ensures;
  same = λ k le. refl;
  chunks = rw (c.new-draft.ensures.chunks, c.new-draft.ensures.nr) refl;
}

pub add_at_cuts-requires-clause-here : goal.add_at_cuts-requires-clause-here
add_at_cuts-requires-clause-here c =
    rw (c.split_at.ensures.front, c.cuts_in.ensures.value) (offsets_first c.loop-file.file c.loop-file.left.now c.loop-file.invariant.ordered)

pub add_at_cuts-requires-clause-rising : goal.add_at_cuts-requires-clause-rising
add_at_cuts-requires-clause-rising c =
    let file = c.loop-file.file in
    let left = c.loop-file.left.now in
    let front : c.split_at.result.0.now ≡ take (prefix_len (is_here file) left) left = c.split_at.ensures.front ∙ ap (λ n. take n left) c.cuts_in.ensures.value in
    let here : offsets file c.split_at.result.0.now ≡ offsets file c.args.cuts.now =
    ap (offsets file) front ∙ sym (offsets_here file left c.loop-file.invariant.ordered) ∙ sym (c.loop-file.invariant.same file (omega arith)) in
    rw (here, c.blocks-blocks.ensures.value) (rises_at_cuts c.args.rs.now (files_of c.args.input.now) c.args.cuts.now c.in_ok-check_cuts.ensures file)

pub returns-in_err-add_at_cuts-clause-refused : goal.returns-in_err-add_at_cuts-clause-refused
returns-in_err-add_at_cuts-clause-refused c =
    let p = err_from_is_err_and c.from_residual-in_err-add_at_cuts.result c.from_residual-in_err-add_at_cuts.ensures.1 in
    let rs = c.args.rs.now in
    let files = files_of c.args.input.now in
    let cuts = c.args.cuts.now in
    let file = c.loop-file.file in
    let left = c.loop-file.left.now in
    let bytes = joined c.blocks-blocks.result in
    let nr = c.loop-file.draft.nr in
    let old = c.loop-file.draft.chunks.items in
    let there : file < length files = omega arith in
    let front : c.split_at.result.0.now ≡ take (prefix_len (is_here file) left) left = c.split_at.ensures.front ∙ ap (λ n. take n left) c.cuts_in.ensures.value in
    let here : offsets file c.split_at.result.0.now ≡ offsets file cuts =
    ap (offsets file) front ∙ sym (offsets_here file left c.loop-file.invariant.ordered) ∙ sym (c.loop-file.invariant.same file (omega arith)) in
    let same = cut_places-same file c.split_at.result.0.now cuts (begins_by rs bytes) here in
    let chunks = chunks_at rs file bytes nr (cut_places cuts file (begins_by rs bytes)) in
    let later = chunks_of rs (cut_places cuts) (file + 1) (nr + length (records_by rs bytes)) (drop (file + 1) files) in
    let next = planned_next rs files (cut_places cuts) file nr bytes there c.blocks-blocks.ensures.value (nr + length (records_by rs bytes)) refl in
    let total = sym (length-append old (chunks_of rs (cut_places cuts) file nr (drop file files))) ∙ ap length c.loop-file.invariant.chunks in
    let few : vec_len c.loop-file.draft.chunks + length (chunks_at rs file bytes nr (cut_places c.split_at.result.0.now file (begins_by rs bytes))) ≤ length (cut_at rs files cuts) =
    omega (arith, total, ap length next, length-append chunks later, ap (λ l. length (chunks_at rs file bytes nr l)) same, c.loop-file.draft.chunks.ok.0) in
    rw (p.1, p.2, c.in_ok-check_cuts.ensures) (RefusesMany-longer _ _ most_chunks c.in_err-add_at_cuts.field-0.0 few c.in_err-add_at_cuts.ensures.refused)

pub loop-file-preserved : goal.loop-file-preserved
loop-file-preserved c =
    let rs = c.args.rs.now in
    let files = files_of c.args.input.now in
    let cuts = c.args.cuts.now in
    let file = c.loop-file.file in
    let left = c.loop-file.left.now in
    let bytes = joined c.blocks-blocks.result in
    let nr = c.loop-file.draft.nr in
    let old = c.loop-file.draft.chunks.items in
    let there : file < length files = omega arith in
    let front : c.split_at.result.0.now ≡ take (prefix_len (is_here file) left) left = c.split_at.ensures.front ∙ ap (λ n. take n left) c.cuts_in.ensures.value in
    let back : c.split_at.result.1.now ≡ drop (prefix_len (is_here file) left) left = c.split_at.ensures.back ∙ ap (λ n. drop n left) c.cuts_in.ensures.value in
    let here : offsets file c.split_at.result.0.now ≡ offsets file cuts =
    ap (offsets file) front ∙ sym (offsets_here file left c.loop-file.invariant.ordered) ∙ sym (c.loop-file.invariant.same file (omega arith)) in
    let same = cut_places-same file c.split_at.result.0.now cuts (begins_by rs bytes) here in
    record {
      few = c.in_ok-add_at_cuts.ensures.few;
      room = omega (arith, total_size_next rs files (cut_places cuts) file nr bytes there c.blocks-blocks.ensures.value, c.in_ok-add_at_cuts.ensures.counted, length-records_by rs bytes);
      ordered = rw back (FilesRise-later file left c.loop-file.invariant.ordered);
      same = λ k le. c.loop-file.invariant.same k (omega arith) ∙ offsets_later k file left (omega arith) ∙ ap (offsets k) (sym back);
      chunks = planned_turn rs files (cut_places cuts) file nr bytes there c.blocks-blocks.ensures.value c.add_at_cuts.new.self.nr old c.add_at_cuts.new.self.chunks.items (cut_at rs files cuts)
          c.in_ok-add_at_cuts.ensures.counted (c.in_ok-add_at_cuts.ensures.chunks ∙ ap (λ l. old ++ chunks_at rs file bytes nr l) same) c.loop-file.invariant.chunks;
    }

pub returns-clause-plan : goal.returns-clause-plan
returns-clause-plan c =
    let rs = c.args.rs.now in
    let files = files_of c.args.input.now in
    let cuts = c.args.cuts.now in
    plan_at_end rs files (cut_places cuts) (picked_at_cuts rs files cuts c.in_ok-check_cuts.ensures) c.loop-file.file c.loop-file.draft.nr c.loop-file.draft.chunks.items (omega arith) c.loop-file.invariant.chunks

pub invariant_of-result : goal.invariant_of-result
invariant_of-result c =
    adjoining_at_end c.args.rs.now (cut_places c.args.cuts.now) (files_of c.args.input.now) c.loop-file.file c.loop-file.draft.nr c.loop-file.draft.chunks.items (omega arith) c.loop-file.invariant.chunks
