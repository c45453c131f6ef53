use Rattle.pawk_store.specs.Outputs.{in_a_row}
use Rattle.pawk_feeds.proofs.StreamLemmas.{if_err, wrote_some}
use Rattle.pawk_feeds.proofs.write.write_on.Goals as goal

pub returns-in_err-write_output-clause-some : goal.returns-in_err-write_output-clause-some
returns-in_err-write_output-clause-some g c =
    if_err _ _ (wrote_some (in_a_row c.args.parts.items) _ _ _ _ _ (rw c.of.ensures at c.in_err-write_output.ensures.refused))
