use Rattle.std.proofs.Common.{◌||◌, ◌≤◌, length, sym, ap, ◌∙◌, arith}
use Rattle.pawk_value.specs.Format.{has_bytes, writes}
use Rattle.pawk_value.specs.FormatViews.{shown_values}
use Rattle.pawk_value.proofs.PieceLemmas as lemmas
use Rattle.pawk_value.proofs.TemplateLemmas.{front_part, parts_end}
use Rattle.pawk_value.proofs.template.push_template.Goals as goal

pub returns-in_err-push_piece : goal.returns-in_err-push_piece
returns-in_err-push_piece c =
    let invariant = c.loop-part.invariant in
    let pieces = front_part c.args.template.now.parts.items c.loop-part.part-index c.part-item.result c.piece_of-piece.result (omega arith) (rw c.deref-part-items.ensures.value at c.part-item.is) c.piece_of-piece.ensures in
    lemmas.stop_passed_on (Unit {0}) (Unit {0}) _ _ _ _ _ _ _ c.push_piece.new.out.items _ _ _ pieces invariant.text invariant.first c.in_err-push_piece.ensures c.from_residual.ensures.1

pub loop-part-preserved : goal.loop-part-preserved
loop-part-preserved c =
    let invariant = c.loop-part.invariant in
    let values = shown_values c.loop-part.left in
    let out = c.loop-part.out.items in
    let pieces = front_part c.args.template.now.parts.items c.loop-part.part-index c.part-item.result c.piece_of-piece.result (omega arith) (rw c.deref-part-items.ensures.value at c.part-item.is) c.piece_of-piece.ensures in
    let made = c.in_ok-push_piece.ensures in
    record {
      text = rw c.arguments_after-left.ensures (lemmas.step_text _ _ _ values out _ pieces made ∙ invariant.text);
      first = rw c.arguments_after-left.ensures (lemmas.step_writes _ _ values out _ made ∙ ap (λ l. has_bytes out || writes l values) (sym pieces) ∙ invariant.first);
    }

pub returns : goal.returns
returns c =
    let all : length c.args.template.now.parts.items ≤ c.loop-part.part-index = omega arith in
    lemmas.end_of_text (Unit {0}) _ _ _ _ c.loop-part.out.items _ (parts_end _ _ all) c.loop-part.invariant.text c.check_length.ensures
