use Rattle.std.proofs.Common.{◌≡◌, false}
use Rattle.pawk_store.specs.Records.{through}
use Rattle.pawk_feeds.specs.Streams.{IsReady, RunsOn, course_of}
use Rattle.pawk_feeds.proofs.stream.run_feed.Given as goal

abbrev pub invariant-loop : goal.invariant-loop
invariant-loop g l = record {
  ran : RunsOn (course_of l.fn.setting) (g.S.Source.left l.initial.feed.source) (g.S.Source.left l.feed.source) (g.K.Sink.taken l.initial.sink) (g.K.Sink.taken l.sink)
      l.initial.feed.name.items l.initial.stream 0 through l.stream l.fnr;
  ready : IsReady (course_of l.fn.setting) l.stream;
  goes : l.stream.window.ended ≡ false;
  name : l.feed.name ≡ l.initial.feed.name;
}
