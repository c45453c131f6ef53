use Rattle.std.proofs.Common.{ℕ, Vec, ap, refl, sym, subst, ◌∙◌}
use Rattle.std.specs.declared.alloc.Global.{Global}
use Rattle.pawk_store.specs.LeftViews.{left_view}
use Rattle.pawk_store.specs.declared.left.Left.{Left as CodeLeft}
use Rattle.pawk_store.specs.Records.{through}
use Rattle.pawk_window.specs.Windows.{Contents}
use Rattle.pawk_feeds.specs.declared.stream.Stream.{Stream}
use Rattle.pawk_feeds.specs.Streams.{Course, course_of, RunsOn, RefusesIn}
use Rattle.pawk_feeds.proofs.StreamLemmas.{if_err, not_through, refuses_unwritten, runs_none, runs_then, refuses_then, file_runs, file_refuses}
use Rattle.pawk_feeds.proofs.stream.run_feed.Goals as goal

pub loop-init : goal.loop-init
loop-init g c =
    let s : Stream = record { flow = c.args.stream.flow; roles = c.args.stream.roles; window = c.clear.new.self; spare = c.args.stream.spare; before = c.args.stream.before; pace = c.args.stream.pace } in
    let goes = ap (λ (w : Contents). w.ended) c.clear.ensures in
    record {
      ran = runs_none (course_of c.args.setting) _ _ _ s 0 goes;
      ready = record { by_rs = ap (λ (w : Contents). w.rs) c.clear.ensures ∙ c.requires.ready.by_rs; may_run = c.requires.ready.may_run };
      goes = goes;
      name = refl;
    }

pub returns-in_err-next-clause-refused : goal.returns-in_err-next-clause-refused
returns-in_err-next-clause-refused g c =
    let u : Course = course_of c.args.setting in
    let s : Stream = record { flow = c.args.stream.flow; roles = c.args.stream.roles; window = c.clear.new.self; spare = c.args.stream.spare; before = c.args.stream.before; pace = c.args.stream.pace } in
    if_err _ _ (file_refuses g.S.Source.left u c.args.feed.now _ _ c.args.stream s refl (ap (λ (w : Contents). w.tail) c.clear.ensures)
    (refuses_then u _ _ _ _ _ _ s 0 c.loop.stream c.loop.fnr c.loop.invariant.ran c.loop.invariant.goes
    (subst (λ (n : Vec ℕ Global). RefusesIn u (g.S.Source.left c.loop.feed.source) (g.K.Sink.taken c.loop.sink) (g.K.Sink.taken c.step.new.sink) n.items c.loop.stream c.loop.fnr) c.loop.invariant.name c.in_err-next.ensures.refused)))

pub returns-then-is_ended-clause-ran : goal.returns-then-is_ended-clause-ran
returns-then-is_ended-clause-ran g c =
    let u : Course = course_of c.args.setting in
    let s : Stream = record { flow = c.args.stream.flow; roles = c.args.stream.roles; window = c.clear.new.self; spare = c.args.stream.spare; before = c.args.stream.before; pace = c.args.stream.pace } in
    let last = subst (λ (n : Vec ℕ Global). RunsOn u (g.S.Source.left c.loop.feed.source) (g.S.Source.left c.step.new.feed.source) (g.K.Sink.taken c.loop.sink) (g.K.Sink.taken c.step.new.sink) n.items c.loop.stream c.loop.fnr (left_view c.in_ok-next.progress.left) c.in_ok-next.next c.in_ok-next.progress.fnr) c.loop.invariant.name c.in_ok-next.ensures.ran in
    let last_on = subst (λ (l : CodeLeft). RunsOn u (g.S.Source.left c.loop.feed.source) (g.S.Source.left c.step.new.feed.source) (g.K.Sink.taken c.loop.sink) (g.K.Sink.taken c.step.new.sink) c.args.feed.now.name.items c.loop.stream c.loop.fnr (left_view l) c.in_ok-next.next c.in_ok-next.progress.fnr) c.in-Through.is last in
    file_runs g.S.Source.left u c.args.feed.now _ _ c.args.stream _ s through c.in_ok-next.next c.in_ok-next.progress.fnr refl refl (ap (λ (w : Contents). w.tail) c.clear.ensures)
    (runs_then u _ _ _ _ _ _ _ s 0 c.loop.stream c.loop.fnr through c.in_ok-next.next c.in_ok-next.progress.fnr c.loop.invariant.ran c.loop.invariant.goes last_on)
    (λ _. sym c.is_ended.ensures ∙ c.if-is_ended.true)

pub returns-in_default : goal.returns-in_default
returns-in_default g c =
    let u : Course = course_of c.args.setting in
    let s : Stream = record { flow = c.args.stream.flow; roles = c.args.stream.roles; window = c.clear.new.self; spare = c.args.stream.spare; before = c.args.stream.before; pace = c.args.stream.pace } in
    let last = subst (λ (n : Vec ℕ Global). RunsOn u (g.S.Source.left c.loop.feed.source) (g.S.Source.left c.step.new.feed.source) (g.K.Sink.taken c.loop.sink) (g.K.Sink.taken c.step.new.sink) n.items c.loop.stream c.loop.fnr (left_view c.in_ok-next.progress.left) c.in_ok-next.next c.in_ok-next.progress.fnr) c.loop.invariant.name c.in_ok-next.ensures.ran in
    record {
      ran = file_runs g.S.Source.left u c.args.feed.now _ _ c.args.stream _ s (left_view c.in_ok-next.progress.left) c.in_ok-next.next c.in_ok-next.progress.fnr refl refl (ap (λ (w : Contents). w.tail) c.clear.ensures)
          (runs_then u _ _ _ _ _ _ _ s 0 c.loop.stream c.loop.fnr (left_view c.in_ok-next.progress.left) c.in_ok-next.next c.in_ok-next.progress.fnr c.loop.invariant.ran c.loop.invariant.goes last)
          (λ on. absurd (not_through c.in_ok-next.progress.left c.in_default.not-Through on));
      ready = c.in_ok-next.ensures.ready;
      refused = tt;
    }

pub loop-preserved : goal.loop-preserved
loop-preserved g c =
    let u : Course = course_of c.args.setting in
    let s : Stream = record { flow = c.args.stream.flow; roles = c.args.stream.roles; window = c.clear.new.self; spare = c.args.stream.spare; before = c.args.stream.before; pace = c.args.stream.pace } in
    let last = subst (λ (n : Vec ℕ Global). RunsOn u (g.S.Source.left c.loop.feed.source) (g.S.Source.left c.step.new.feed.source) (g.K.Sink.taken c.loop.sink) (g.K.Sink.taken c.step.new.sink) n.items c.loop.stream c.loop.fnr (left_view c.in_ok-next.progress.left) c.in_ok-next.next c.in_ok-next.progress.fnr) c.loop.invariant.name c.in_ok-next.ensures.ran in
    let last_on = subst (λ (l : CodeLeft). RunsOn u (g.S.Source.left c.loop.feed.source) (g.S.Source.left c.step.new.feed.source) (g.K.Sink.taken c.loop.sink) (g.K.Sink.taken c.step.new.sink) c.args.feed.now.name.items c.loop.stream c.loop.fnr (left_view l) c.in_ok-next.next c.in_ok-next.progress.fnr) c.in-Through.is last in
    record {
      ran = runs_then u _ _ _ _ _ _ _ s 0 c.loop.stream c.loop.fnr through c.in_ok-next.next c.in_ok-next.progress.fnr c.loop.invariant.ran c.loop.invariant.goes last_on;
      ready = c.in_ok-next.ensures.ready;
      goes = sym c.is_ended.ensures ∙ c.if-is_ended.false;
      name = c.in_ok-next.ensures.name ∙ c.loop.invariant.name;
    }

pub returns-clause-refused : goal.returns-clause-refused
returns-clause-refused g c =
    let u : Course = course_of c.args.setting in
    let s : Stream = record { flow = c.args.stream.flow; roles = c.args.stream.roles; window = c.clear.new.self; spare = c.args.stream.spare; before = c.args.stream.before; pace = c.args.stream.pace } in
    file_refuses g.S.Source.left u c.args.feed.now _ _ c.args.stream s refl (ap (λ (w : Contents). w.tail) c.clear.ensures)
    (refuses_then u _ _ _ _ _ _ s 0 c.loop.stream c.loop.fnr c.loop.invariant.ran c.loop.invariant.goes (refuses_unwritten u _ _ _ _ _))
