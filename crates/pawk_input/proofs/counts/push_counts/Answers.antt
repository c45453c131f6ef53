use Rattle.std.proofs.Common.{◌≡◌, ◌+◌, ◌++◌, ◌∷◌, min, length, ap, sym, ◌∙◌, arith}
use Rattle.pawk_input.specs.Input.{file_at, files_of}
use Rattle.pawk_input.specs.Counts.{counts_left}
use Rattle.pawk_input.proofs.CountLemmas.{counts_to, count_moved}
use Rattle.pawk_input.proofs.counts.push_counts.Goals as goal

pub loop-from-preserved : goal.loop-from-preserved
loop-from-preserved c =
    let rs = c.args.rs.now in
    let s = (file_at (files_of c.args.input.now) c.args.file).bytes in
    let from = c.loop-from.from in
    let end = c.min-end.result in
    let is : end ≡ min (from + c.args.block) (length s) = omega (arith, c.min-end.ensures, c.saturating_add.ensures, c.size-size.ensures, c.size-size.type_inv) in
    let step = counts_to rs c.args.block c.requires.some s from end (omega (arith, c.size-size.ensures)) is in
    record {
      within = omega (arith, is);
      counts = count_moved c.loop-from.counts.items c.push.new.self.items (c.args.counts.now.items ++ counts_left rs c.args.block s 0) (counts_left rs c.args.block s end) (counts_left rs c.args.block s from)
          c.count_block.result c.loop-from.invariant.counts (step ∙ ap (λ n. n ∷ counts_left rs c.args.block s end) (sym c.count_block.ensures)) c.in_ok-push.ensures.items;
    }
