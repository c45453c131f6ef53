use Rattle.pawk_records.proofs.BlocksLemmas.{blocks_law_lem}
use Rattle.pawk_records.proofs.block_laws.blocks_law.Goals as goal

pub returns : goal.returns
returns c = blocks_law_lem c.args.rs.now c.args.blocks.now c.requires
