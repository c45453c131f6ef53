use Rattle.std.proofs.Common.{false, arith}
use Rattle.std.proofs.lemmas.List.FromFn.{fill_by_all}
use Rattle.pawk_ere_syntax.specs.Sets.{in_either, with_range}
use Rattle.pawk_ere_syntax.proofs.Sets.{range_added}
use Rattle.pawk_ere_syntax.proofs.byte_set.ByteSet.insert_range.Goals as goal

pub returns : goal.returns
unfolding with_range
returns c =
    let loop = c.loop-byte.invariant in
    fill_by_all (in_either c.args.self.now.members c.args.low c.args.high) c.loop-byte.self.members 256 false loop.size
    (λ k lt. range_added c.args.self.now.members c.loop-byte.self.members c.args.low c.args.high c.loop-byte.byte k (omega arith) (omega arith) loop.inside loop.below loop.above)
