use Rattle.std.proofs.Common.{◌∙◌}
use Rattle.pawk_input.proofs.ItemsLemmas.{items_of_blocks}
use Rattle.pawk_input.proofs.files.Input.records.Goals as goal

pub returns-clause-walk : goal.returns-clause-walk
returns-clause-walk c = rw (c.of.ensures, c.lend.ensures, c.self.view_is) at c.of_files.ensures ∙ items_of_blocks c.args.rs.now 0 0 c.args.self.now c.requires.ready
