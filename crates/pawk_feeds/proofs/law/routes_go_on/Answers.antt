use Rattle.pawk_feeds.proofs.law.routes_go_on.Goals as goal

pub returns-clause-keep : goal.returns-clause-keep
returns-clause-keep c = c.records_keep.ensures
