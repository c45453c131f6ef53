use Rattle.std.proofs.Common.{sym, ◌∙◌}
use Rattle.pawk_array.specs.ArrayViews.{entries_of}
use Rattle.pawk_array.proofs.PiecesLemmas.{one_text}
use Rattle.pawk_array.proofs.array.insert_pieces.Goals as goal

pub loop-place-preserved : goal.loop-place-preserved
loop-place-preserved c =
    let place = c.loop-place.place in
    let old = entries_of c.loop-place.map.entries in
    let new = entries_of c.insert_copy.new.map.entries in
    sym (one_text place c.args.pieces.now old new c.key.result.now c.piece.result.now c.piece.ensures c.key.ensures c.in_ok-insert_copy.ensures) ∙ c.loop-place.invariant
