use Rattle.std.proofs.Common.{◌≡◌, ℕ, ◌<◌, length-append, ◌++◌, length, take, refl, ap, sym, arith}
use Rattle.std.proofs.lemmas.Result.{err_from_is_err_and}
use Rattle.pawk_records.specs.Blocks.{joined}
use Rattle.pawk_input.specs.Limits.{most_chunks}
use Rattle.pawk_records.specs.Records.{records_by}
use Rattle.pawk_records.specs.Begins.{BeginsAt}
use Rattle.pawk_input.specs.Plan.{IsBeginOrEnd, chunks_at, places_by_size, size_in_file, sized_chunks}
use Rattle.pawk_input.proofs.SizeLemmas.{begins_first, chunk_fits, chunk_moved, chunk_up, few_before}
use Rattle.pawk_input.proofs.StepLemmas.{some_size}
use Rattle.pawk_input.proofs.DraftLemmas.{RefusesMany-longer}
use Rattle.pawk_input.proofs.draft.Draft.add_by_counts.Goals as goal

pub loop-start-init : goal.loop-start-init
loop-start-init c =
    let size : ℕ → ℕ = size_in_file c.args.steps.size c.args.steps.steps.now c.args.steps.before in
    let rs = c.args.rs.now in
    let s = joined c.args.blocks.now in
    let p = c.begin_or_end-start.result in
    let h : IsBeginOrEnd rs s 0 p = rw c.of-separator.ensures at c.begin_or_end-start.ensures in
    record {
      nr = refl;
      passed = record { low = omega arith; count = refl; left = c.requires.counts };
      within = h.within;
      begins = λ lt. (h.begins lt).1;
      few = c.requires.few;
      chunks = ap (λ l. c.args.self.now.chunks.items ++ chunks_at rs c.args.file s c.args.self.now.nr (places_by_size size l)) (sym (begins_first rs s p h));
    }

pub overflow_add-chunk : goal.overflow_add-chunk
overflow_add-chunk c =
    let rs = c.args.rs.now in
    let s = joined c.args.blocks.now in
    let p = c.loop-start.start in
    let count : c.records_before-fnr.result.0 ≡ length (records_by rs (take p s)) = rw c.of-separator.ensures at c.records_before-fnr.ensures.count in
    omega (arith, few_before rs s p c.records_before-fnr.result.0 c.loop-start.invariant.within count, c.loop-start.invariant.nr, c.loop-start.invariant.within)

pub returns-in_err-add_chunk-clause-refused : goal.returns-in_err-add_chunk-clause-refused
returns-in_err-add_chunk-clause-refused c =
    let size : ℕ → ℕ = size_in_file c.args.steps.size c.args.steps.steps.now c.args.steps.before in
    let some : 0 < size c.loop-start.start = some_size c.args.steps.size c.args.steps.steps.now c.args.steps.before c.loop-start.start c.requires.sized c.requires.each in
    let e = err_from_is_err_and c.from_residual.result c.from_residual.ensures.1 in
    let s = joined c.args.blocks.now in
    let ends = rw (c.of-separator.ensures, c.saturating_add.ensures, c.size_at-size.ensures) at c.begin_or_end-end.ensures in
    let fits = chunk_fits c.args.rs.now s size c.args.file c.loop-start.self.nr c.loop-start.start _ c.loop-start.self.chunks.items _ some (omega arith) (omega arith) (c.loop-start.invariant.begins (omega arith)) ends c.loop-start.invariant.chunks in
    let all = length-append c.args.self.now.chunks.items (sized_chunks c.args.rs.now size c.args.file s c.args.self.now.nr) in
    rw (e.1, e.2) (RefusesMany-longer _ _ most_chunks c.in_err-add_chunk.field-0.0 (omega (arith, fits, all, c.loop-start.self.chunks.ok.0, c.args.self.now.chunks.ok.0)) c.in_err-add_chunk.ensures.refused)

pub loop-start-preserved : goal.loop-start-preserved
loop-start-preserved c =
    let size : ℕ → ℕ = size_in_file c.args.steps.size c.args.steps.steps.now c.args.steps.before in
    let some : 0 < size c.loop-start.start = some_size c.args.steps.size c.args.steps.steps.now c.args.steps.before c.loop-start.start c.requires.sized c.requires.each in
    let rs = c.args.rs.now in
    let s = joined c.args.blocks.now in
    let p = c.loop-start.start in
    let old = c.loop-start.self.chunks.items in
    let is : BeginsAt rs s p = c.loop-start.invariant.begins (omega arith) in
    let ends = rw (c.of-separator.ensures, c.saturating_add.ensures, c.size_at-size.ensures) at c.begin_or_end-end.ensures in
    let up = chunk_up rs s size c.args.file c.loop-start.self.nr p c.begin_or_end-end.result old _ some (omega arith) (omega arith) is ends c.loop-start.invariant.chunks in
    let count : c.records_before-fnr.result.0 ≡ length (records_by rs (take p s)) = rw c.of-separator.ensures at c.records_before-fnr.ensures.count in
    let passed = rw c.of-separator.ensures at c.records_before-fnr.ensures.passed in
    record {
      nr = c.loop-start.invariant.nr;
      passed = record { low = omega (arith, passed.low, up); count = passed.count; left = passed.left };
      within = ends.within;
      begins = λ lt. (ends.begins lt).1;
      few = c.in_ok-add_chunk.ensures.few;
      chunks = chunk_moved rs s size c.args.file c.loop-start.self.nr p _ old _ some (omega arith) (omega arith) is ends c.loop-start.invariant.chunks c.add_chunk.new.chunks.items c.records_before-fnr.result.0 count c.in_ok-add_chunk.ensures.added;
    }

pub loop-start-smaller : goal.loop-start-smaller
loop-start-smaller c =
    let s = joined c.args.blocks.now in
    let size : ℕ → ℕ = size_in_file c.args.steps.size c.args.steps.steps.now c.args.steps.before in
    let some : 0 < size c.loop-start.start = some_size c.args.steps.size c.args.steps.steps.now c.args.steps.before c.loop-start.start c.requires.sized c.requires.each in
    let ends = rw (c.of-separator.ensures, c.saturating_add.ensures, c.size_at-size.ensures) at c.begin_or_end-end.ensures in
    let up = chunk_up c.args.rs.now s size c.args.file c.loop-start.self.nr c.loop-start.start _ c.loop-start.self.chunks.items _ some (omega arith) (omega arith) (c.loop-start.invariant.begins (omega arith)) ends c.loop-start.invariant.chunks in
    omega (arith, up, ends.within)

pub overflow_add-self : goal.overflow_add-self
overflow_add-self c =
    let rs = c.args.rs.now in
    let s = joined c.args.blocks.now in
    let count : c.records_before-count.result.0 ≡ length (records_by rs (take (length s) s)) = rw (c.of-separator.ensures, c.size-whole.ensures) at c.records_before-count.ensures.count in
    omega (arith, few_before rs s (length s) c.records_before-count.result.0 (omega arith) count, c.loop-start.invariant.nr)
