use Rattle.std.proofs.Common.{[], ◌<◌, ◌+◌, refl, sym, ◌∙◌, arith}
use Rattle.std.proofs.lemmas.List.{drop-set-lt}
use Rattle.pawk_store.specs.LeftViews.{left_view}
use Rattle.pawk_feeds.specs.declared.stream.Stream.{Stream}
use Rattle.pawk_feeds.specs.Streams.{course_of}
use Rattle.pawk_feeds.proofs.StreamLemmas.{if_err}
use Rattle.pawk_window.proofs.PlaceLemmas.{drop_past}
use Rattle.pawk_feeds.proofs.TurnsLemmas.{with_globals, is_after, ready_after, over_none, feeds_go, feeds_end, feeds_refuse, feeds_stay, feeds_all}
use Rattle.pawk_feeds.proofs.stream.run_all.Goals as goal

pub loop-feed-init : goal.loop-feed-init
loop-feed-init g c = record { ran = ([], tt, over_none _ _ _); ready = c.requires.ready; untouched = refl }

pub returns-in_err-assign-clause-refused : goal.returns-in_err-assign-clause-refused
returns-in_err-assign-clause-refused g c =
    if_err _ _ (feeds_stay g.S.Source.left (course_of c.args.setting) _ _ c.args.stream c.loop-feed.stream c.args.feeds.now c.loop-feed.feed-index c.loop-feed.invariant.ran)

pub run_feed-requires-clause-ready : goal.run_feed-requires-clause-ready
run_feed-requires-clause-ready g c = λ s h.
    ready_after (course_of c.args.setting) c.loop-feed.stream c.assign.new.globals _ c.assignments_keep_ready.ensures c.in_ok-assign.ensures c.loop-feed.invariant.ready

pub returns-in_err-next-clause-refused : goal.returns-in_err-next-clause-refused
returns-in_err-next-clause-refused g c =
    let u = course_of c.args.setting in
    let ready : Stream = with_globals c.loop-feed.stream c.assign.new.globals in
    if_err _ _ (feeds_refuse g.S.Source.left u _ _ _ c.args.stream c.loop-feed.stream ready ready c.args.feeds.now c.loop-feed.feeds c.loop-feed.feed-index c.feed-item.result (omega arith) c.loop-feed.invariant.untouched c.loop-feed.invariant.ran
    (is_after u c.loop-feed.stream c.assign.new.globals _ c.in_ok-assign.ensures) c.in_err-next.ensures.refused)

pub returns-then-is_end-clause-ran : goal.returns-then-is_end-clause-ran
returns-then-is_end-clause-ran g c =
    let u = course_of c.args.setting in
    let ready : Stream = with_globals c.loop-feed.stream c.assign.new.globals in
    feeds_end g.S.Source.left u _ _ _ c.args.stream c.loop-feed.stream ready c.in_ok-next.next c.args.feeds.now c.loop-feed.feeds c.loop-feed.feed-index c.feed-item.result (omega arith) c.loop-feed.invariant.untouched c.loop-feed.invariant.ran
    (is_after u c.loop-feed.stream c.assign.new.globals _ c.in_ok-assign.ensures)
    (left_view c.in_ok-next.left) c.in_ok-next.ensures.ran (sym c.is_end.ensures ∙ c.if-is_end.true)

pub loop-feed-preserved : goal.loop-feed-preserved
loop-feed-preserved g c =
    let i = c.loop-feed.feed-index in
    let more : i < i + 1 = omega arith in
    let u = course_of c.args.setting in
    let ready : Stream = with_globals c.loop-feed.stream c.assign.new.globals in
    record {
      ran = feeds_go g.S.Source.left u _ _ _ c.args.stream c.loop-feed.stream ready c.in_ok-next.next c.args.feeds.now c.loop-feed.feeds i c.feed-item.result (omega arith) c.loop-feed.invariant.untouched c.loop-feed.invariant.ran
          (is_after u c.loop-feed.stream c.assign.new.globals _ c.in_ok-assign.ensures)
          (left_view c.in_ok-next.left) c.in_ok-next.ensures.ran (sym c.is_end.ensures ∙ c.if-is_end.false);
      ready = c.in_ok-next.ensures.ready;
      untouched = drop-set-lt (i + 1) c.loop-feed.feeds i c.run_feed.new.feed more ∙ drop_past c.loop-feed.feeds c.args.feeds.now i c.loop-feed.invariant.untouched;
    }

pub returns-in_err-assign-2-clause-refused : goal.returns-in_err-assign-2-clause-refused
returns-in_err-assign-2-clause-refused g c =
    if_err _ _ (feeds_stay g.S.Source.left (course_of c.args.setting) _ _ c.args.stream c.loop-feed.stream c.args.feeds.now c.loop-feed.feed-index c.loop-feed.invariant.ran)

pub returns-clause-ran : goal.returns-clause-ran
returns-clause-ran g c =
    let u = course_of c.args.setting in
    feeds_all g.S.Source.left u _ _ c.args.stream c.loop-feed.stream (with_globals c.loop-feed.stream c.assign-2.new.globals) c.args.feeds.now c.loop-feed.feed-index c.loop-feed-test.false c.loop-feed.invariant.ran
    (is_after u c.loop-feed.stream c.assign-2.new.globals _ c.in_ok-assign-2.ensures)
