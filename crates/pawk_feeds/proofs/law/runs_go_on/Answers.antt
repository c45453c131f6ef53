use Rattle.pawk_feeds.proofs.law.runs_go_on.Goals as goal

pub returns-clause-pieces : goal.returns-clause-pieces
returns-clause-pieces c = c.files_follow.ensures.pieces tt

pub returns-clause-output : goal.returns-clause-output
returns-clause-output c = c.files_follow.ensures.output tt

pub returns-clause-behind : goal.returns-clause-behind
returns-clause-behind c = c.output_is_appended.ensures.behind tt
