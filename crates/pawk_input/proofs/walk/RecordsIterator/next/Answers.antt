use Rattle.std.proofs.Common.{◌≡◌, ◌+◌, [], ◌∷◌, length, ap, sym, ◌∙◌, arith}
use Rattle.pawk_records.specs.Separator.{rs_of}
use Rattle.pawk_records.specs.Blocks.{joined}
use Rattle.pawk_records.proofs.BlocksLemmas.{parts_all}
use Rattle.pawk_input.specs.Input.{files_of, total_size}
use Rattle.pawk_input.specs.Lent.{lent_file}
use Rattle.pawk_input.specs.Walk.{items_ahead}
use Rattle.pawk_input.proofs.ItemsLemmas.{next_file, next_piece, no_items, turns}
use Rattle.pawk_input.proofs.walk.RecordsIterator.next.Goals as goal

pub invariant_of-self-in_err-first : goal.invariant_of-self-in_err-first
invariant_of-self-in_err-first c =
    let s = c.loop-bytes.self-inside in
    let rs = rs_of s.separator in
    let ends = c.in_default-next_piece.ensures.1 in
    let last = c.in_err-first.ensures.1 in
    let none = ap length (no_items rs s.file s.name.now s.nr s.fnr s.rest.now c.next_piece.new.self c.next_file.new.self c.in_default.ensures.cut ends last) in
    let held = ap (λ l. length (joined l)) ends in
    let total = ap (λ l. total_size (files_of l)) last in
    let count = ap length last in (
      omega (arith, none, c.loop-bytes.invariant.counted),
      c.loop-bytes.invariant.in_file,
      omega (arith, count, c.loop-bytes.invariant.few_files),
      omega (arith, held, total, c.loop-bytes.invariant.short),
      c.in_default.ensures.ends,
    )

pub returns-in_err-first-clause-steps : goal.returns-in_err-first-clause-steps
returns-in_err-first-clause-steps c =
    let s = c.loop-bytes.self-inside in
    let rs = rs_of s.separator in
    let cut = c.in_default.ensures.cut in
    let none = no_items rs s.file s.name.now s.nr s.fnr s.rest.now s.pieces s.later cut c.in_default-next_piece.ensures.0 c.in_err-first.ensures.0 in
    let left = no_items rs s.file s.name.now s.nr s.fnr s.rest.now c.next_piece.new.self c.next_file.new.self cut c.in_default-next_piece.ensures.1 c.in_err-first.ensures.1 in
    let old = sym c.self.view_is ∙ sym c.loop-bytes.invariant.same ∙ none in
    rw c.from_residual.ensures (old, left)

pub loop-bytes-smaller : goal.loop-bytes-smaller
loop-bytes-smaller c =
    let f = lent_file c.in_ok-first.first in
    let left = ap turns c.in_ok-first.ensures in
    let none = ap length c.in_default-next_piece.ensures.0 in
    let long = ap length (c.pieces-self-inside.ensures.value ∙ parts_all c.size.result _ (omega (arith, c.size.ensures))) in
    omega (arith, left, none, long)

pub loop-bytes-preserved : goal.loop-bytes-preserved
loop-bytes-preserved c =
    let s = c.loop-bytes.self-inside in
    let rs = rs_of s.separator in
    let f = lent_file c.in_ok-first.first in
    let later = c.next_file.new.self in
    let none : s.pieces ≡ [] = c.in_default-next_piece.ensures.0 in
    let same : items_ahead rs (s.file + 1) f.name s.nr 0 ([] ∷ c.pieces-self-inside.result) later ≡ items_ahead rs s.file s.name.now s.nr s.fnr (s.rest.now ∷ s.pieces) s.later =
    rw c.pieces-self-inside.ensures.value (sym (next_file rs s.file s.name.now s.nr s.fnr f later c.size.result (omega (arith, c.size.ensures))))
    ∙ ap (items_ahead rs s.file s.name.now s.nr s.fnr []) (sym c.in_ok-first.ensures)
    ∙ ap (λ l. items_ahead rs s.file s.name.now s.nr s.fnr l s.later) (sym none)
    ∙ sym (next_piece rs s.file s.name.now s.nr s.fnr s.rest.now s.pieces s.later c.in_default.ensures.cut) in
    let held = ap (λ l. length (joined l)) (c.pieces-self-inside.ensures.value ∙ parts_all c.size.result _ (omega (arith, c.size.ensures))) in
    let total = ap (λ l. total_size (files_of l)) c.in_ok-first.ensures in
    let count = ap length c.in_ok-first.ensures in
    record {
      same = same ∙ c.loop-bytes.invariant.same;
      counted = omega (arith, ap length same, c.loop-bytes.invariant.counted);
      in_file = omega arith;
      few_files = omega (arith, count, c.loop-bytes.invariant.few_files);
      short = omega (arith, held, total, c.loop-bytes.invariant.short);
      ends = c.none-self-inside-in-loop-bytes.ensures rs [];
    }
