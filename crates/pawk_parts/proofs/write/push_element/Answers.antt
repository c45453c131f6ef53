use Rattle.std.proofs.Common.{Some, refl, ◌∙◌, ap, rules}
use Rattle.pawk_world.specs.Worlds as cell
use Rattle.pawk_frozen.specs.Marks.{Mark, with_mark}
use Rattle.pawk_frozen.specs.MarkViews.{mark_view}
use Rattle.pawk_lines.specs.Lines.{shown_mark, IsLine}
use Rattle.pawk_lines.specs.Lines as lines
use Rattle.pawk_parts.specs.Parts.{Noted}
use Rattle.pawk_parts.proofs.LineLemmas.{appends_line, element_said}
use Rattle.pawk_parts.proofs.write.push_element.Goals as goal

pub returns-in_ok-push_line-in-Some-clause-written : goal.returns-in_ok-push_line-in-Some-clause-written
returns-in_ok-push_line-in-Some-clause-written c n slot array none =
    let key = c.args.key.now in
    let m = shown_mark c.in-Some.mark in
    let lent = rw c.in-Some.is at c.in_ok-mark.ensures.lent in
    let after : Mark → Noted = λ w. record n { table = with_mark (cell.element slot key) w n.table } in
    let is_line : IsLine (lines.element key m) = (search rules, lent.0) in
    appends_line c.args.out.now.items c.push_line.new.out.items (lines.element key m) n (after (mark_view c.args.mark.now))
    c.in_ok-push_line-in-Some.ensures.written is_line refl (element_said slot key m n array lent.1 none ∙ ap (λ w. Some (after w)) lent.2)
