use Rattle.pawk_records.proofs.BlocksLemmas.{joined_parts, mended_parts}
use Rattle.pawk_records.proofs.pieces.Pieces.of.Goals as goal

pub returns-clause-bytes : goal.returns-clause-bytes
returns-clause-bytes c = joined_parts c.args.start c.args.size c.args.blocks

pub returns-clause-mended : goal.returns-clause-mended
returns-clause-mended c = λ rs h. mended_parts rs c.args.start c.args.size c.args.blocks h
