use Rattle.pawk_fields.specs.Splits.{separates}
use Rattle.pawk_fields.proofs.SplitLemmas.{pieces_law_lem}
use Rattle.pawk_fields.proofs.field_walk.pieces_law.Goals as goal

pub returns : goal.returns
returns c = pieces_law_lem (separates c.args.byte c.args.paragraph) c.args.text.now
