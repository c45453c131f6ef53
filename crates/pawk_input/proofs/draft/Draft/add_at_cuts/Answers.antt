use Rattle.std.proofs.Common.{◌≡◌, ◌+◌, ◌-◌, ◌<◌, ◌≤◌, ◌++◌, ◌∷◌, [], length, take, drop, get_or, map, vec_len, refl, ap, sym, ◌∙◌, arith, length-append, length-take}
use Rattle.std.proofs.lemmas.List.{append-nil, drop_more, drop_all, length-drop}
use Rattle.std.proofs.lemmas.Result.{err_from_is_err_and}
use Rattle.pawk_records.specs.Blocks.{joined}
use Rattle.pawk_input.specs.Limits.{most_chunks}
use Rattle.pawk_records.specs.Records.{records_by}
use Rattle.pawk_records.specs.Begins.{begins_by}
use Rattle.pawk_records.proofs.BeginsLemmas.{length-records_by}
use Rattle.pawk_input.specs.Plan.{IsBeginOrEnd, Rises, chunks_at, cut_places}
use Rattle.pawk_input.proofs.SizeLemmas.{nothing_before, part_end, part_count, few_before, all_before}
use Rattle.pawk_input.proofs.CutPlanLemmas.{cut_places_here, no_cut_places, rises_from_first}
use Rattle.pawk_input.proofs.DraftLemmas.{RefusesMany-longer, moved, one_more_fits}
use Rattle.pawk_input.proofs.draft.Draft.add_at_cuts.Goals as goal

pub returns-then-start-whole-clause-chunks : goal.returns-then-start-whole-clause-chunks
returns-then-start-whole-clause-chunks c =
    let rs = c.args.rs.now in
    let s = joined c.args.blocks.now in
    let first = c.begin_or_end-start.result in
    let h : IsBeginOrEnd rs s 0 first = rw c.of-separator.ensures at c.begin_or_end-start.ensures in
    let none : cut_places c.args.cuts.now c.args.file (begins_by rs s) ≡ [] = no_cut_places rs c.args.file first s c.args.cuts.now h (omega arith) in
    rw none (sym (append-nil c.args.self.now.chunks.items))

pub returns-then-start-whole-clause-counted : goal.returns-then-start-whole-clause-counted
returns-then-start-whole-clause-counted c =
    let rs = c.args.rs.now in
    let s = joined c.args.blocks.now in
    let first = c.begin_or_end-start.result in
    let h : IsBeginOrEnd rs s 0 first = rw c.of-separator.ensures at c.begin_or_end-start.ensures in
    let none : 0 ≡ length (records_by rs s) = all_before rs s first 0 (omega arith) (sym (ap length (nothing_before rs s first h))) in
    omega arith

pub loop-cut-init : goal.loop-cut-init
loop-cut-init c =
    let rs = c.args.rs.now in
    let s = joined c.args.blocks.now in
    let first = c.begin_or_end-start.result in
    let h : IsBeginOrEnd rs s 0 first = rw c.of-separator.ensures at c.begin_or_end-start.ensures in
    let lt : first < length s = omega (arith, h.within, c.if-start-whole.false) in
    record {
      nr = refl;
      counted = sym (ap length (nothing_before rs s first h));
      room = omega arith;
      within = lt;
      begins = (h.begins lt).1;
      few = c.requires.few;
      rising = rises_from_first rs first s (map (λ cut. cut.1) c.args.cuts.now) h lt (rw c.requires.here at c.requires.rising);
      chunks = refl;
    }

pub returns-in_err-fnr-clause-refused : goal.returns-in_err-fnr-clause-refused
returns-in_err-fnr-clause-refused c =
    let p = err_from_is_err_and c.from_residual.result c.from_residual.ensures.1 in
    let rs = c.args.rs.now in
    let s = joined c.args.blocks.now in
    let cuts = c.args.cuts.now in
    let first = c.begin_or_end-start.result in
    let h : IsBeginOrEnd rs s 0 first = rw c.of-separator.ensures at c.begin_or_end-start.ensures in
    let places : cut_places cuts c.args.file (begins_by rs s) ≡ first ∷ map (λ cut. cut.1) cuts = cut_places_here rs c.args.file first s cuts h (omega (arith, h.within, c.if-start-whole.false)) c.requires.here in
    let all = chunks_at rs c.args.file s c.args.self.now.nr (first ∷ map (λ cut. cut.1) cuts) in
    let few : vec_len c.loop-cut.self.chunks + 1 ≤ vec_len c.args.self.now.chunks + length all =
    omega (arith, one_more_fits c.loop-cut.self.chunks.items (c.args.self.now.chunks.items ++ all) _ _ _ c.loop-cut.invariant.chunks refl, length-append c.args.self.now.chunks.items all, c.loop-cut.self.chunks.ok.0, c.args.self.now.chunks.ok.0) in
    rw (p.1, p.2, places) (RefusesMany-longer _ _ most_chunks c.in_err-fnr.field-0.0 few c.in_err-fnr.ensures.refused)

pub loop-cut-preserved : goal.loop-cut-preserved
loop-cut-preserved c =
    let rs = c.args.rs.now in
    let s = joined c.args.blocks.now in
    let start = c.loop-cut.start in
    let cuts = c.args.cuts.now in
    let i = c.loop-cut.cut-index in
    let q = (get_or cuts i (0, 0)).1 in
    let first = c.begin_or_end-start.result in
    let left : drop i cuts ≡ get_or cuts i (0, 0) ∷ drop (i + 1) cuts = drop_more cuts i (0, 0) (omega arith) in
    let rising : Rises rs s start (q ∷ map (λ cut. cut.1) (drop (i + 1) cuts)) = rw left at c.loop-cut.invariant.rising in
    let within : q ≤ length s = omega (arith, rising.1) in
    let before : c.loop-cut.fnr ≡ length (records_by rs (take start s)) = c.loop-cut.invariant.counted in
    let count : c.in_ok-fnr.fnr ≡ length (records_by rs (take q s)) = part_count rs s start q rising.0 within c.loop-cut.fnr c.in_ok-fnr.fnr c.loop-cut.invariant.begins before (rw c.of-separator.ensures at c.in_ok-fnr.ensures.counted) in
    let ends : start + length (take (q - start) (drop start s)) ≡ q = part_end rs s start q rising.0 within in
    let all = c.args.self.now.chunks.items ++ chunks_at rs c.args.file s c.args.self.now.nr (first ∷ map (λ cut. cut.1) cuts) in
    let later = chunks_at rs c.args.file s c.loop-cut.self.nr (q ∷ map (λ cut. cut.1) (drop (i + 1) cuts)) in
    record {
      nr = c.in_ok-fnr.ensures.nr ∙ c.loop-cut.invariant.nr;
      counted = count;
      room = few_before rs s q c.in_ok-fnr.fnr within count;
      within = rising.1;
      begins = rising.2;
      few = c.in_ok-fnr.ensures.few;
      rising = rising.3;
      chunks = ap (λ n. c.add_part.new.self.chunks.items ++ chunks_at rs c.args.file s n (q ∷ map (λ cut. cut.1) (drop (i + 1) cuts))) c.in_ok-fnr.ensures.nr
          ∙ moved c.loop-cut.self.chunks.items c.add_part.new.self.chunks.items all _ _ later c.loop-cut.invariant.chunks
          (ap (λ l. chunks_at rs c.args.file s c.loop-cut.self.nr (start ∷ map (λ cut. cut.1) l)) left)
          (rw before at c.in_ok-fnr.ensures.added);
    }

pub returns-in_err-self-clause-refused : goal.returns-in_err-self-clause-refused
returns-in_err-self-clause-refused c =
    let p = err_from_is_err_and c.from_residual-in_err-self.result c.from_residual-in_err-self.ensures.1 in
    let rs = c.args.rs.now in
    let s = joined c.args.blocks.now in
    let cuts = c.args.cuts.now in
    let first = c.begin_or_end-start.result in
    let h : IsBeginOrEnd rs s 0 first = rw c.of-separator.ensures at c.begin_or_end-start.ensures in
    let places : cut_places cuts c.args.file (begins_by rs s) ≡ first ∷ map (λ cut. cut.1) cuts = cut_places_here rs c.args.file first s cuts h (omega (arith, h.within, c.if-start-whole.false)) c.requires.here in
    let all = chunks_at rs c.args.file s c.args.self.now.nr (first ∷ map (λ cut. cut.1) cuts) in
    let few : vec_len c.loop-cut.self.chunks + 1 ≤ vec_len c.args.self.now.chunks + length all =
    omega (arith, one_more_fits c.loop-cut.self.chunks.items (c.args.self.now.chunks.items ++ all) _ _ _ c.loop-cut.invariant.chunks refl, length-append c.args.self.now.chunks.items all, c.loop-cut.self.chunks.ok.0, c.args.self.now.chunks.ok.0) in
    rw (p.1, p.2, places) (RefusesMany-longer _ _ most_chunks c.in_err-self.field-0.0 few c.in_err-self.ensures.refused)

pub overflow_add-self : goal.overflow_add-self
overflow_add-self c =
    let rs = c.args.rs.now in
    let s = joined c.args.blocks.now in
    let start = c.loop-cut.start in
    let counted = rw c.of-separator.ensures at c.in_ok-self.ensures.counted in
    let part = take (c.size-whole.result - start) (drop start s) in
    omega (arith, counted, length-records_by rs part, length-take (c.size-whole.result - start) (drop start s), length-drop start s, c.in_ok-self.ensures.nr)

pub returns-clause-chunks : goal.returns-clause-chunks
returns-clause-chunks c =
    let rs = c.args.rs.now in
    let s = joined c.args.blocks.now in
    let start = c.loop-cut.start in
    let cuts = c.args.cuts.now in
    let first = c.begin_or_end-start.result in
    let h : IsBeginOrEnd rs s 0 first = rw c.of-separator.ensures at c.begin_or_end-start.ensures in
    let places : cut_places cuts c.args.file (begins_by rs s) ≡ first ∷ map (λ cut. cut.1) cuts = cut_places_here rs c.args.file first s cuts h (omega (arith, h.within, c.if-start-whole.false)) c.requires.here in
    let none : drop c.loop-cut.cut-index cuts ≡ [] = drop_all c.loop-cut.cut-index cuts (omega arith) in
    let ends : start + length (take (length s - start) (drop start s)) ≡ length s = part_end rs s start (length s) c.loop-cut.invariant.within (omega arith) in
    let before : c.loop-cut.fnr ≡ length (records_by rs (take start s)) = c.loop-cut.invariant.counted in
    rw places (rw (c.size-whole.ensures, before) at c.in_ok-self.ensures.added
    ∙ ap (λ l. c.loop-cut.self.chunks.items ++ chunks_at rs c.args.file s c.loop-cut.self.nr (start ∷ map (λ cut. cut.1) l)) (sym none)
    ∙ c.loop-cut.invariant.chunks)

pub returns-clause-counted : goal.returns-clause-counted
returns-clause-counted c =
    let rs = c.args.rs.now in
    let s = joined c.args.blocks.now in
    let start = c.loop-cut.start in
    let part = part_count rs s start (length s) c.loop-cut.invariant.within (omega arith) c.loop-cut.fnr c.in_ok-self.field-0 c.loop-cut.invariant.begins c.loop-cut.invariant.counted (rw (c.of-separator.ensures, c.size-whole.ensures) at c.in_ok-self.ensures.counted) in
    let count = all_before rs s (length s) c.in_ok-self.field-0 (omega arith) part in
    omega (arith, count, c.in_ok-self.ensures.nr, c.loop-cut.invariant.nr)
