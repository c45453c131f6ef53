use Rattle.pawk_value.proofs.PieceLemmas as lemmas
use Rattle.pawk_value.proofs.pieces.next_piece.Goals as goal

pub returns-clause-pieces : goal.returns-clause-pieces
returns-clause-pieces c =
    rw (c.split_at.ensures.front, c.split_at.ensures.back, c.count_plain.ensures.value) (lemmas.front_plain c.args.format.now)
