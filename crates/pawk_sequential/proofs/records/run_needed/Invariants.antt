use Rattle.std.proofs.Common.{◌≡◌, None, length}
use Rattle.pawk_code.specs.ProgramViews.{code_view}
use Rattle.pawk_input.specs.Walk.{items_left}
use Rattle.pawk_store.specs.Runs.{records_from}
use Rattle.pawk_prefilter.specs.Passages.{IsPassage}
use Rattle.pawk_store.specs.declared.left.Left.TheVariants.{Through}
use Rattle.pawk_sequential.specs.Ends.{end_view}
use Rattle.pawk_sequential.proofs.records.run_needed.Given as goal

-- from where the walk is, the records that are left end as all of them do
abbrev pub invariant-loop-passage : goal.invariant-loop-passage
invariant-loop-passage g l =
    IsPassage (code_view l.job.code.now) l.passage
    × (records_from g.W.World.calls (code_view l.job.code.now).expressions (code_view l.job.code.now) l.job.budget l.skip (end_view (g.W.World.state l.world) l.run l.left) (items_left l.records)
    ≡ records_from g.W.World.calls (code_view l.job.code.now).expressions (code_view l.job.code.now) l.job.budget None (end_view (g.W.World.state l.fn.world) l.fn.run Through) (items_left l.fn.records))

abbrev pub decreases-loop-passage : goal.decreases-loop-passage
decreases-loop-passage g l = length (items_left l.records)
