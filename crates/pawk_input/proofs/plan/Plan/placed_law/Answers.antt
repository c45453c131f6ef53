use Rattle.pawk_input.specs.Input.{files_of}
use Rattle.pawk_input.proofs.PlacedLemmas.{placed_of}
use Rattle.pawk_input.proofs.plan.Plan.placed_law.Goals as goal

pub returns : goal.returns
returns c = placed_of c.args.rs.now (files_of c.args.input.now) c.args.self.now c.files-files.ensures.limited c.requires
