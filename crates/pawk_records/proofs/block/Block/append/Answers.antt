use Rattle.std.proofs.Common.{◌≡◌, ◌≤◌, ◌++◌, vec_len, rules}
use Rattle.pawk_records.proofs.CensusLemmas.{census_before}
use Rattle.pawk_records.proofs.block.Block.append.Goals as goal

pub invariant_of-self-2 : goal.invariant_of-self-2
invariant_of-self-2 c =
    let within : c.self.inside.from ≤ vec_len c.extend_from_slice.new.self = search rules in
    let items : c.extend_from_slice.new.self.items ≡ c.self.inside.bytes.items ++ c.args.bytes.now = search rules in
    (within, rw items (census_before c.self.inside.census c.self.inside.bytes.items c.args.bytes.now c.self.invariant.1))
