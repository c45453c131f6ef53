use Rattle.std.proofs.Common.{refl}
use Rattle.pawk_code.specs.ProgramViews.{code_view}
use Rattle.pawk_store.specs.LeftViews.{left_view}
use Rattle.pawk_store.specs.Openings.{pairs_of}
use Rattle.pawk_feeds.specs.declared.stream.Stream.{Stream}
use Rattle.pawk_feeds.proofs.StreamLemmas.{if_err}
use Rattle.pawk_feeds.proofs.RunLemmas.{refused_unwritten, begin_refused, run_refused, end_unwritten, answered_if, refused_if, run_route}
use Rattle.pawk_feeds.proofs.run.run_on.Goals as goal

pub returns-in_err-one_part-clause-refused : goal.returns-in_err-one_part-clause-refused
returns-in_err-one_part-clause-refused g c =
    if_err _ _ (refused_unwritten (code_view c.args.order.job.code.now) c.args.order.job.budget (pairs_of c.args.order.assignments.now) (pairs_of c.args.order.first.now) (pairs_of c.args.order.last.now) g.S.Source.left c.args.feeds.now _)

pub returns-in_err-write_on-clause-refused : goal.returns-in_err-write_on-clause-refused
returns-in_err-write_on-clause-refused g c =
    if_err _ _ (begin_refused (code_view c.args.order.job.code.now) c.args.order.job.budget (pairs_of c.args.order.assignments.now) (pairs_of c.args.order.first.now) (pairs_of c.args.order.last.now) g.S.Source.left c.args.feeds.now c.args.start c.requires.begun c.in_ok-one_part.field-0.items c.in_ok-one_part.ensures _ _ c.in_err-write_on.ensures.some)

pub returns-in_err-stream-clause-refused : goal.returns-in_err-stream-clause-refused
returns-in_err-stream-clause-refused g c =
    let s : Stream = record { flow = c.args.start.flow; roles = c.parted-roles.result.0; window = c.new.result; spare = c.new-2.result; before = 0; pace = c.new-3.result } in
    if_err _ _ (run_refused (code_view c.args.order.job.code.now) c.args.order.job.budget (pairs_of c.args.order.assignments.now) (pairs_of c.args.order.first.now) (pairs_of c.args.order.last.now) g.S.Source.left c.args.feeds.now c.args.start c.requires.begun c.in_ok-one_part.field-0.items c.in_ok-one_part.ensures c.as_slice.result.now c.as_slice.ensures.value s refl (g.K.Sink.taken c.args.sink.now) (g.K.Sink.taken c.write_on.new.sink) c.in_ok-write_on.ensures.all _ c.in_err-stream.ensures.refused)

pub returns-in_err-outcome-clause-refused : goal.returns-in_err-outcome-clause-refused
returns-in_err-outcome-clause-refused g c =
    let s : Stream = record { flow = c.args.start.flow; roles = c.parted-roles.result.0; window = c.new.result; spare = c.new-2.result; before = 0; pace = c.new-3.result } in
    if_err _ _ (end_unwritten (code_view c.args.order.job.code.now) c.args.order.job.budget (pairs_of c.args.order.assignments.now) (pairs_of c.args.order.first.now) (pairs_of c.args.order.last.now) g.S.Source.left c.args.feeds.now c.args.start c.requires.begun c.in_ok-one_part.field-0.items c.in_ok-one_part.ensures c.as_slice.result.now c.as_slice.ensures.value s refl (g.K.Sink.taken c.args.sink.now) (g.K.Sink.taken c.write_on.new.sink) c.in_ok-write_on.ensures.all (g.K.Sink.taken c.run_all.new.sink) (g.K.Sink.taken c.run_all.new.sink) (left_view c.in_ok-stream.left) c.in_ok-stream.stream c.in_ok-stream.ensures.ran)

pub returns-clause-answered : goal.returns-clause-answered
returns-clause-answered g c =
    let s : Stream = record { flow = c.args.start.flow; roles = c.parted-roles.result.0; window = c.new.result; spare = c.new-2.result; before = 0; pace = c.new-3.result } in
    answered_if (code_view c.args.order.job.code.now) c.args.order.job.budget (pairs_of c.args.order.assignments.now) (pairs_of c.args.order.first.now) (pairs_of c.args.order.last.now) g.S.Source.left c.args.feeds.now c.args.start c.requires.begun c.in_ok-one_part.field-0.items c.in_ok-one_part.ensures c.as_slice.result.now c.as_slice.ensures.value s refl (g.K.Sink.taken c.args.sink.now) (g.K.Sink.taken c.write_on.new.sink) c.in_ok-write_on.ensures.all (g.K.Sink.taken c.run_all.new.sink) (g.K.Sink.taken c.end_run.new.sink) (left_view c.in_ok-stream.left) c.in_ok-stream.stream c.in_ok-stream.ensures.ran c.in_ok-outcome.outcome c.in_ok-outcome.ensures c.end_run.result _
    (run_route (code_view c.args.order.job.code.now) c.args.order.job.budget (pairs_of c.args.order.assignments.now) (pairs_of c.args.order.first.now) (pairs_of c.args.order.last.now) g.S.Source.left c.args.feeds.now c.args.start c.requires.begun c.in_ok-one_part.field-0.items c.in_ok-one_part.ensures c.as_slice.result.now c.as_slice.ensures.value s refl (g.K.Sink.taken c.args.sink.now) (g.K.Sink.taken c.write_on.new.sink) c.in_ok-write_on.ensures.all (g.K.Sink.taken c.run_all.new.sink) (g.K.Sink.taken c.end_run.new.sink) (left_view c.in_ok-stream.left) c.in_ok-stream.stream c.in_ok-stream.ensures.ran c.parted-roles.result.1 c.parted-roles.ensures c.is_some.result c.is_some.ensures)
    (rw c.route_of.ensures at c.end_run.ensures.route) c.end_run.ensures.globals c.end_run.ensures.specials c.end_run.ensures.ending c.end_run.ensures.wrote

pub returns-clause-refused : goal.returns-clause-refused
returns-clause-refused g c =
    let s : Stream = record { flow = c.args.start.flow; roles = c.parted-roles.result.0; window = c.new.result; spare = c.new-2.result; before = 0; pace = c.new-3.result } in
    refused_if (code_view c.args.order.job.code.now) c.args.order.job.budget (pairs_of c.args.order.assignments.now) (pairs_of c.args.order.first.now) (pairs_of c.args.order.last.now) g.S.Source.left c.args.feeds.now c.args.start c.requires.begun c.in_ok-one_part.field-0.items c.in_ok-one_part.ensures c.as_slice.result.now c.as_slice.ensures.value s refl (g.K.Sink.taken c.args.sink.now) (g.K.Sink.taken c.write_on.new.sink) c.in_ok-write_on.ensures.all (g.K.Sink.taken c.run_all.new.sink) (g.K.Sink.taken c.end_run.new.sink) (left_view c.in_ok-stream.left) c.in_ok-stream.stream c.in_ok-stream.ensures.ran c.in_ok-outcome.outcome c.in_ok-outcome.ensures c.end_run.result c.end_run.ensures.refused
