use Rattle.std.proofs.Common.{Some, refl, ◌∙◌, ap, arith}
use Rattle.pawk_world.specs.Worlds as cell
use Rattle.pawk_frozen.specs.Marks.{Mark, with_mark}
use Rattle.pawk_frozen.specs.MarkViews.{mark_view}
use Rattle.pawk_lines.specs.Lines.{shown_mark, IsLine}
use Rattle.pawk_lines.specs.Lines as lines
use Rattle.pawk_parts.specs.Parts.{Noted}
use Rattle.pawk_parts.proofs.LineLemmas.{appends_line, scalar_said}
use Rattle.pawk_parts.proofs.write.push_scalar.Goals as goal

pub returns-in_ok-push_line-clause-written : goal.returns-in_ok-push_line-clause-written
returns-in_ok-push_line-clause-written c n within none =
    let slot = c.args.slot in
    let m = shown_mark c.in-Some.mark in
    let lent = rw c.in-Some.is at c.in_ok-mark.ensures.lent in
    let after : Mark → Noted = λ w. record n { table = with_mark (cell.scalar slot) w n.table } in
    let is_line : IsLine (lines.scalar slot m) = (omega arith, lent.0) in
    appends_line c.args.out.now.items c.push_line.new.out.items (lines.scalar slot m) n (after (mark_view c.args.mark.now))
    c.in_ok-push_line.ensures.written is_line refl (scalar_said slot m n within lent.1 none ∙ ap (λ w. Some (after w)) lent.2)
