use Rattle.std.proofs.Common.{false, arith}
use Rattle.std.proofs.lemmas.List.FromFn.{fill_by_all}
use Rattle.pawk_ere_syntax.specs.Sets.{not_in, complement}
use Rattle.pawk_ere_syntax.proofs.byte_set.ByteSet.complement.Goals as goal

pub returns : goal.returns
unfolding complement
returns c = fill_by_all (not_in c.args.self.now.members) c.loop-byte.members 256 false c.loop-byte.invariant.size (λ k lt. c.loop-byte.invariant.same k (omega arith))
