use Rattle.pawk_records.proofs.lent.LentBlocks.pieces.Goals as goal

pub returns-clause-mended : goal.returns-clause-mended
returns-clause-mended c = λ rs h. c.of.ensures.mended rs (rw c.again.ensures h)
