use Rattle.std.proofs.Common.{◌≡◌, List, take, drop}
use Rattle.pawk_merge_law.specs.Flows.{Turn}
use Rattle.pawk_feeds.specs.Feeds.{AreTurnsOf}
use Rattle.pawk_feeds.specs.Streams.{IsReady, RunsOver, course_of}
use Rattle.pawk_feeds.proofs.stream.run_all.Given as goal

abbrev pub invariant-loop-feed : goal.invariant-loop-feed
invariant-loop-feed g l = record {
  ran : (done : List Turn) × AreTurnsOf g.S.Source.left (take l.feed-index l.initial.feeds) done
      × RunsOver (course_of l.fn.setting) (g.K.Sink.taken l.initial.sink) (g.K.Sink.taken l.sink) done l.initial.stream l.stream;
  ready : IsReady (course_of l.fn.setting) l.stream;
  untouched : drop l.feed-index l.feeds ≡ drop l.feed-index l.initial.feeds;
}
