use Rattle.pawk_table_merge.proofs.section.run_kept.Goals as goal

pub run_piece_noting-requires-clause-ready : goal.run_piece_noting-requires-clause-ready
run_piece_noting-requires-clause-ready c =
    c.in_ok-may_go_on.ensures c.if-not-branch.false c.args.setting.job.budget
