use Rattle.std.proofs.Common.{refl, ◌∙◌}
use Rattle.pawk_flow.specs.Piece.{Piece}
use Rattle.pawk_feeds.specs.declared.stream.Stream.{Stream}
use Rattle.pawk_window.specs.Windows.{with_records}
use Rattle.pawk_feeds.specs.Streams.{Course, course_of}
use Rattle.pawk_feeds.proofs.StreamLemmas.{if_err, refuses_unwritten, piece_refuses, piece_runs}
use Rattle.pawk_feeds.proofs.stream.step.Goals as goal

pub returns-in_err-next_records-clause-refused : goal.returns-in_err-next_records-clause-refused
returns-in_err-next_records-clause-refused g c = if_err _ _ (refuses_unwritten _ _ _ _ _ _)

pub returns-in_err-flow-clause-refused : goal.returns-in_err-flow-clause-refused
returns-in_err-flow-clause-refused g c = if_err _ _ (refuses_unwritten _ _ _ _ _ _)

pub returns-in_err-write_on-clause-refused : goal.returns-in_err-write_on-clause-refused
returns-in_err-write_on-clause-refused g c =
    let u : Course = course_of c.args.setting in
    let x = c.in_ok-flow.end in
    let come = c.in_ok-next_records.ensures.come in
    let piece : Piece = record { rs = c.args.setting.rs; name = c.as_slice.result; fnr = c.args.fnr; bytes = c.in_ok-next_records.field-0 } in
    let new : Stream = record { flow = c.in_ok-flow.flow; roles = c.in_ok-flow.roles; window = c.next_records.new.window; spare = x.bytes; before = c.args.fnr; pace = c.after-pace.result } in
    if_err _ _ (piece_refuses u c.runs_go_on.ensures.pieces c.runs_go_on.ensures.output c.runs_go_on.ensures.behind _ _ _ _ _ c.args.stream new c.args.fnr (with_records c.next_records.new.window c.in_ok-next_records.field-0.items) piece x
    come.bytes come.whole come.end (come.same ∙ c.requires.ready.by_rs)
    c.in_ok-flow.ensures.runs refl c.as_slice.ensures.value refl refl refl refl
    c.in_err-write_on.ensures.some c.routes_go_on.ensures.pieces c.routes_go_on.ensures.output c.routes_go_on.ensures.keep c.requires.ready.may_run c.in_ok-flow.ensures.tells)

pub returns-clause-ran : goal.returns-clause-ran
returns-clause-ran g c =
    let u : Course = course_of c.args.setting in
    let x = c.in_ok-flow.end in
    let come = c.in_ok-next_records.ensures.come in
    let piece : Piece = record { rs = c.args.setting.rs; name = c.as_slice.result; fnr = c.args.fnr; bytes = c.in_ok-next_records.field-0 } in
    let new : Stream = record { flow = c.in_ok-flow.flow; roles = c.in_ok-flow.roles; window = c.next_records.new.window; spare = x.bytes; before = c.args.fnr; pace = c.after-pace.result } in
    piece_runs u c.runs_go_on.ensures.pieces c.runs_go_on.ensures.output c.runs_go_on.ensures.behind _ _ _ _ _ c.args.stream new c.args.fnr (with_records c.next_records.new.window c.in_ok-next_records.field-0.items) piece x
    come.bytes come.whole come.end (come.same ∙ c.requires.ready.by_rs)
    c.in_ok-flow.ensures.runs refl c.as_slice.ensures.value refl refl refl refl
    c.in_ok-write_on.ensures.all c.routes_go_on.ensures.pieces c.routes_go_on.ensures.output c.routes_go_on.ensures.keep c.requires.ready.may_run c.in_ok-flow.ensures.tells
