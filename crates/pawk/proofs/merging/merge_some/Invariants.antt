use Rattle.pawk_code.specs.ProgramViews.{code_view}
use Rattle.pawk_table_merge.specs.TableMerges.{IsMergeOf}
use Rattle.pawk.proofs.merging.merge_some.Given as goal

abbrev pub invariant-loop-turn : goal.invariant-loop-turn
invariant-loop-turn g l = IsMergeOf (code_view l.fn.job.code.now) l.progress.merging
