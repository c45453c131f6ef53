use Rattle.pawk_code.specs.ProgramViews.{code_view}
use Rattle.pawk_table_merge.specs.TableMerges.{IsMergeOf}
use Rattle.pawk.proofs.merging.merge_all.Given as goal

abbrev pub invariant-loop-turns : goal.invariant-loop-turns
invariant-loop-turns g l = IsMergeOf (code_view l.fn.job.code.now) l.progress.merging
