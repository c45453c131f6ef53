use Rattle.std.proofs.Common.{◌<◌, ◌+◌, ◌∙◌, get_or, refl, subst, arith}
use Rattle.std.proofs.lemmas.List.{drop-set-lt}
use Rattle.pawk_window.proofs.PlaceLemmas.{drop_past}
use Rattle.pawk_map.specs.Readings.{ground_of}
use Rattle.pawk_map.specs.declared.draft.Course.{Course}
use Rattle.pawk_map.proofs.EndLemmas.{AddsFile, feeds_none, feeds_go, feeds_end, feeds_all}
use Rattle.pawk_map.proofs.stream.add_all.Goals as goal

pub loop-feed-init : goal.loop-feed-init
loop-feed-init g c = record { adds = feeds_none g.S.Source.left (ground_of c.args.reading) _ _; by_rs = c.requires.by_rs; untouched = refl }

pub returns-in-Over : goal.returns-in-Over
returns-in-Over g c =
    let u = ground_of c.args.reading in
    let left = g.S.Source.left in
    let taken = g.K.Sink.taken c.loop-feed.sink in
    let now_taken = g.K.Sink.taken c.add_feed.new.sink in
    feeds_end left u _ taken now_taken c.args.stream.draft c.loop-feed.stream.draft c.in_ok-next.next.draft c.args.feeds.now c.loop-feed.feeds c.loop-feed.feed-index c.feed-item.result
    (omega arith) c.loop-feed.invariant.untouched c.loop-feed.invariant.adds
    (subst (λ (o : Course). AddsFile left u taken now_taken c.loop-feed.stream.draft c.in_ok-next.next.draft (get_or c.loop-feed.feeds c.loop-feed.feed-index c.feed-item.result) o) c.in-Over.is c.in_ok-next.ensures.adds)

pub loop-feed-preserved : goal.loop-feed-preserved
loop-feed-preserved g c =
    let i = c.loop-feed.feed-index in
    let more : i < i + 1 = omega arith in
    let u = ground_of c.args.reading in
    let left = g.S.Source.left in
    let taken = g.K.Sink.taken c.loop-feed.sink in
    let now_taken = g.K.Sink.taken c.add_feed.new.sink in
    record {
      adds = feeds_go left u _ taken now_taken c.args.stream.draft c.loop-feed.stream.draft c.in_ok-next.next.draft c.args.feeds.now c.loop-feed.feeds i c.feed-item.result
          (omega arith) c.loop-feed.invariant.untouched c.loop-feed.invariant.adds
          (subst (λ (o : Course). AddsFile left u taken now_taken c.loop-feed.stream.draft c.in_ok-next.next.draft (get_or c.loop-feed.feeds c.loop-feed.feed-index c.feed-item.result) o) c.in-On.is c.in_ok-next.ensures.adds);
      by_rs = c.in_ok-next.ensures.by_rs;
      untouched = drop-set-lt (i + 1) c.loop-feed.feeds i c.add_feed.new.feed more ∙ drop_past c.loop-feed.feeds c.args.feeds.now i c.loop-feed.invariant.untouched;
    }

pub returns : goal.returns
returns g c =
    feeds_all g.S.Source.left (ground_of c.args.reading) _ _ c.args.stream.draft c.loop-feed.stream.draft c.args.feeds.now c.loop-feed.feed-index c.loop-feed-test.false c.loop-feed.invariant.adds
