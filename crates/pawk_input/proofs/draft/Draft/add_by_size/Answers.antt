use Rattle.std.proofs.Common.{◌≡◌, length-append, ◌<◌, ◌++◌, length, take, refl, ap, sym, ◌∙◌, arith}
use Rattle.std.proofs.lemmas.Result.{err_from_is_err_and}
use Rattle.pawk_records.specs.Blocks.{joined}
use Rattle.pawk_input.specs.Limits.{most_chunks}
use Rattle.pawk_records.specs.Records.{records_by}
use Rattle.pawk_records.specs.Begins.{BeginsAt}
use Rattle.pawk_input.specs.Plan.{IsBeginOrEnd, chunks_at, places_by_size, sized_chunks}
use Rattle.pawk_input.proofs.SizeLemmas.{begins_first, nothing_before, chunk_fits, chunk_moved, chunk_up, part_count, few_before}
use Rattle.pawk_input.proofs.DraftLemmas.{RefusesMany-longer}
use Rattle.pawk_input.proofs.draft.Draft.add_by_size.Goals as goal

pub loop-start-init : goal.loop-start-init
loop-start-init c =
    let rs = c.args.rs.now in
    let s = joined c.args.blocks.now in
    let p = c.begin_or_end-start.result in
    let h : IsBeginOrEnd rs s 0 p = rw c.of-separator.ensures at c.begin_or_end-start.ensures in
    record {
      nr = refl;
      counted = sym (ap length (nothing_before rs s p h));
      room = omega arith;
      within = h.within;
      begins = λ lt. (h.begins lt).1;
      few = c.requires.few;
      chunks = ap (λ l. c.args.self.now.chunks.items ++ chunks_at rs c.args.file s c.args.self.now.nr (places_by_size (λ _. c.args.size) l)) (sym (begins_first rs s p h));
    }

pub returns-in_err-fnr-clause-refused : goal.returns-in_err-fnr-clause-refused
returns-in_err-fnr-clause-refused c =
    let e = err_from_is_err_and c.from_residual.result c.from_residual.ensures.1 in
    let s = joined c.args.blocks.now in
    let ends = rw (c.of-separator.ensures, c.saturating_add.ensures) at c.begin_or_end-end.ensures in
    let fits = chunk_fits c.args.rs.now s (λ _. c.args.size) c.args.file c.loop-start.self.nr c.loop-start.start _ c.loop-start.self.chunks.items _ (omega arith) (omega arith) (omega arith) (c.loop-start.invariant.begins (omega arith)) ends c.loop-start.invariant.chunks in
    let all = length-append c.args.self.now.chunks.items (sized_chunks c.args.rs.now (λ _. c.args.size) c.args.file s c.args.self.now.nr) in
    rw (e.1, e.2) (RefusesMany-longer _ _ most_chunks c.in_err-fnr.field-0.0 (omega (arith, fits, all, c.loop-start.self.chunks.ok.0, c.args.self.now.chunks.ok.0)) c.in_err-fnr.ensures.refused)

pub loop-start-preserved : goal.loop-start-preserved
loop-start-preserved c =
    let rs = c.args.rs.now in
    let s = joined c.args.blocks.now in
    let p = c.loop-start.start in
    let q = c.begin_or_end-end.result in
    let old = c.loop-start.self.chunks.items in
    let is : BeginsAt rs s p = c.loop-start.invariant.begins (omega arith) in
    let ends = rw (c.of-separator.ensures, c.saturating_add.ensures) at c.begin_or_end-end.ensures in
    let nr = c.loop-start.self.nr in
    let up : p < q = chunk_up rs s (λ _. c.args.size) c.args.file nr p q old _ (omega arith) (omega arith) (omega arith) is ends c.loop-start.invariant.chunks in
    let before : c.loop-start.fnr ≡ length (records_by rs (take p s)) = c.loop-start.invariant.counted in
    let count : c.in_ok-fnr.fnr ≡ length (records_by rs (take q s)) = part_count rs s p q up ends.within c.loop-start.fnr c.in_ok-fnr.fnr is before (rw c.of-separator.ensures at c.in_ok-fnr.ensures.counted) in
    record {
      nr = c.in_ok-fnr.ensures.nr ∙ c.loop-start.invariant.nr;
      counted = count;
      room = few_before rs s q c.in_ok-fnr.fnr ends.within count;
      within = ends.within;
      begins = λ lt. (ends.begins lt).1;
      few = c.in_ok-fnr.ensures.few;
      chunks = rw c.in_ok-fnr.ensures.nr (chunk_moved rs s (λ _. c.args.size) c.args.file nr p q old _ (omega arith) (omega arith) (omega arith) is ends c.loop-start.invariant.chunks c.add_part.new.self.chunks.items c.loop-start.fnr before c.in_ok-fnr.ensures.added);
    }
