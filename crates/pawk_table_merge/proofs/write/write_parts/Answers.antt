use Rattle.pawk_store.specs.Outputs.{in_a_row}
use Rattle.pawk_table_merge.proofs.RefusalLemmas.{if_err, wrote_part}
use Rattle.pawk_table_merge.proofs.write.write_parts.Goals as goal

pub returns-in_err-write_output-clause-some : goal.returns-in_err-write_output-clause-some
returns-in_err-write_output-clause-some g c =
    if_err _ _ (wrote_part (in_a_row c.args.parts.items) _ _ _ _ _ (rw c.of.ensures at c.in_err-write_output.ensures.refused))
