use Rattle.pawk_code.specs.ProgramViews.{code_view}
use Rattle.pawk_store.specs.Openings.{pairs_of}
use Rattle.pawk_feeds.proofs.RunLemmas.{refused_unwritten, ended_answered, ended_refused}
use Rattle.pawk_feeds.proofs.run.run_feeds.Goals as goal

pub returns-in-Ok-Ended-clause-answered : goal.returns-in-Ok-Ended-clause-answered
returns-in-Ok-Ended-clause-answered g c =
    let begins = rw c.in-Ok-Ended.field-0-is at c.in-Ok-Ended.ensures in
    let last = pairs_of c.args.order.last.now in
    ended_answered (code_view c.args.order.job.code.now) c.args.order.job.budget (pairs_of c.args.order.assignments.now) (pairs_of c.args.order.first.now) last g.S.Source.left c.args.feeds.now _ _ c.in-Ok-Ended.outcome c.in-Ok-Ended.route (λ turns. begins turns last) c.end_run.result c.end_run.ensures.route c.end_run.ensures.globals c.end_run.ensures.specials c.end_run.ensures.ending c.end_run.ensures.wrote

pub returns-in-Ok-Ended-clause-refused : goal.returns-in-Ok-Ended-clause-refused
returns-in-Ok-Ended-clause-refused g c =
    let begins = rw c.in-Ok-Ended.field-0-is at c.in-Ok-Ended.ensures in
    let last = pairs_of c.args.order.last.now in
    ended_refused (code_view c.args.order.job.code.now) c.args.order.job.budget (pairs_of c.args.order.assignments.now) (pairs_of c.args.order.first.now) last g.S.Source.left c.args.feeds.now _ _ c.in-Ok-Ended.outcome (λ turns. (begins turns last).0) c.end_run.result c.end_run.ensures.refused

pub returns-in-Err-Thread-clause-refused : goal.returns-in-Err-Thread-clause-refused
returns-in-Err-Thread-clause-refused g c =
    refused_unwritten (code_view c.args.order.job.code.now) c.args.order.job.budget (pairs_of c.args.order.assignments.now) (pairs_of c.args.order.first.now) (pairs_of c.args.order.last.now) g.S.Source.left c.args.feeds.now _

pub returns-in-Err-Memory-clause-refused : goal.returns-in-Err-Memory-clause-refused
returns-in-Err-Memory-clause-refused g c =
    refused_unwritten (code_view c.args.order.job.code.now) c.args.order.job.budget (pairs_of c.args.order.assignments.now) (pairs_of c.args.order.first.now) (pairs_of c.args.order.last.now) g.S.Source.left c.args.feeds.now _

pub returns-in-Err-Input-clause-refused : goal.returns-in-Err-Input-clause-refused
returns-in-Err-Input-clause-refused g c =
    refused_unwritten (code_view c.args.order.job.code.now) c.args.order.job.budget (pairs_of c.args.order.assignments.now) (pairs_of c.args.order.first.now) (pairs_of c.args.order.last.now) g.S.Source.left c.args.feeds.now _
