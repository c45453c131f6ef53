use Rattle.std.proofs.Common.{◌≡◌, ◌||◌, length, sym, ap, ◌∙◌, rules, tests}
use Rattle.pawk_value.specs.Format.{has_bytes, writes}
use Rattle.pawk_value.specs.FormatViews.{shown_values}
use Rattle.pawk_value.proofs.PieceLemmas as lemmas
use Rattle.pawk_value.proofs.formats.push_format.Goals as goal

pub returns-in_err-push_piece : goal.returns-in_err-push_piece
returns-in_err-push_piece c =
    let invariant = c.loop-rest.invariant in
    lemmas.stop_passed_on (Unit {0}) (Unit {0}) _ _ _ _ _ _ _ c.push_piece.new.out.items _ _ _ c.next_piece-front.ensures.pieces invariant.text invariant.first c.in_err-push_piece.ensures c.from_residual.ensures.1

pub loop-rest-preserved : goal.loop-rest-preserved
loop-rest-preserved c =
    let invariant = c.loop-rest.invariant in
    let values = shown_values c.loop-rest.left in
    let out = c.loop-rest.out.items in
    let pieces = c.next_piece-front.ensures.pieces in
    let made = c.in_ok-push_piece.ensures in
    record {
      text = rw c.arguments_after-left.ensures (lemmas.step_text _ _ _ values out _ pieces made ∙ invariant.text);
      first = rw c.arguments_after-left.ensures (lemmas.step_writes _ _ values out _ made ∙ ap (λ l. has_bytes out || writes l values) (sym pieces) ∙ invariant.first);
    }

pub returns : goal.returns
returns c =
    let empty : length c.loop-rest.rest.now ≡ 0 = search (rules, tests) in
    lemmas.end_of_text (Unit {0}) _ _ _ _ c.loop-rest.out.items _ (lemmas.nothing_left _ empty) c.loop-rest.invariant.text c.check_length.ensures
