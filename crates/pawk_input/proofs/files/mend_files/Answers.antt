use Rattle.std.proofs.Common.{◌∙◌, arith}
use Rattle.pawk_input.proofs.ItemsLemmas.{same_files, one_more_ready}
use Rattle.pawk_input.proofs.files.mend_files.Goals as goal

pub returns-in_err-mend-clause-same : goal.returns-in_err-mend-clause-same
returns-in_err-mend-clause-same c = same_files c.loop-i.files c.loop-i.i c.index-files-i.result c.mend.new.self c.mend.ensures.same ∙ c.loop-i.invariant.same

pub loop-i-preserved : goal.loop-i-preserved
loop-i-preserved c = record {
  same = same_files c.loop-i.files c.loop-i.i c.index-files-i.result c.mend.new.self c.mend.ensures.same ∙ c.loop-i.invariant.same;
  ready = one_more_ready c.args.rs.now c.loop-i.files c.loop-i.i _ c.mend.new.self (omega arith) c.loop-i.invariant.ready c.in_ok-mend.ensures.mended;
}
