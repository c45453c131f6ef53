use Rattle.std.proofs.Common.{sym}
use Rattle.pawk_array.proofs.PiecesLemmas.{found-no_number, found-piece}
use Rattle.pawk_array.proofs.pieces.TextPieces.get.Goals as goal

pub returns-in-None : goal.returns-in-None
returns-in-None c = sym (found-no_number c.args.key.now c.args.self.now c.in-None.ensures.place)

pub returns-in-Some : goal.returns-in-Some
returns-in-Some c =
    let at = c.in-Some.ensures.place in
    sym (found-piece c.args.self.now c.args.key.now c.in-Some.place c.piece.result.now c.in-Some.ensures.small at.1 c.piece.ensures)
