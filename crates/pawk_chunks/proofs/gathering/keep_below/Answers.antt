use Rattle.std.proofs.Common.{rules, nat_lt}
use Rattle.std.proofs.lemmas.Fn.{filter_same}
use Rattle.pawk_chunks.specs.Worker.{Numbered}
use Rattle.pawk_chunks.proofs.gathering.keep_below.Goals as goal

pub returns : goal.returns
returns c = filter_same _ (λ (r : Numbered). nat_lt r.0 c.args.limit) _ (λ r b f k. search rules) _ _ c.retain.ensures.filtered
