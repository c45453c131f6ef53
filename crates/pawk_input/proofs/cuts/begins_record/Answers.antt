use Rattle.std.proofs.Common.{length, ap, sym, ◌∙◌, inl, inr, arith}
use Rattle.pawk_records.specs.Blocks.{joined}
use Rattle.pawk_input.specs.Plan.{IsBeginOrEnd}
use Rattle.pawk_input.proofs.CutPlanLemmas.{begins_outside, begins_inside}
use Rattle.pawk_input.proofs.cuts.begins_record.Goals as goal
use Rattle.pawk_input.proofs.cuts.begins_record.Goals.{then-cut-first-via-then-cut-first, then-cut-first-via-else-cut-first+then-cut-whole}

pub returns-then-cut-first : goal.returns-then-cut-first
returns-then-cut-first c =
    let rs = c.args.rs.now in
    let s = joined c.blocks-blocks.result in
    let same = ap length c.blocks-blocks.ensures.value in
    let h : IsBeginOrEnd rs s 0 c.begin_or_end-first.result = rw c.of-separator.ensures at c.begin_or_end-first.ensures in
    rw (← c.blocks-blocks.ensures.value) (sym (begins_outside rs s c.begin_or_end-first.result c.args.cut.1 h (elim c.then-cut-first.branch [
      | then-cut-first-via-then-cut-first w ↦ inl (omega arith)
      | then-cut-first-via-else-cut-first+then-cut-whole w ↦ inr (omega (arith, same))
    ])))

pub returns : goal.returns
returns c =
    let rs = c.args.rs.now in
    let s = joined c.blocks-blocks.result in
    let same = ap length c.blocks-blocks.ensures.value in
    let h : IsBeginOrEnd rs s 0 c.begin_or_end-first.result = rw c.of-separator.ensures at c.begin_or_end-first.ensures in
    rw (← c.blocks-blocks.ensures.value) (rw c.of-separator.ensures at c.begins_at.ensures ∙ sym (begins_inside rs s c.begin_or_end-first.result c.args.cut.1 h (omega arith) (omega (arith, same))))
