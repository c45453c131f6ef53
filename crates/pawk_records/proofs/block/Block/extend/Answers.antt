use Rattle.std.proofs.Common.{◌≡◌, ◌++◌, rules}
use Rattle.pawk_records.proofs.CensusLemmas.{census_before}
use Rattle.pawk_records.proofs.block.Block.extend.Goals as goal

pub grow-requires : goal.grow-requires
grow-requires c =
    let is : c.as_slice.result.now ≡ c.self.inside.bytes.items ++ c.args.bytes.now = search rules in
    rw is (census_before c.self.inside.census c.self.inside.bytes.items c.args.bytes.now c.self.invariant.1)
