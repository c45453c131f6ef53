use Rattle.std.proofs.Common.{◌≡◌, take, drop}
use Rattle.pawk_map.specs.Readings.{ground_of}
use Rattle.pawk_map.specs.declared.draft.Course.TheVariants.{On}
use Rattle.pawk_map.proofs.EndLemmas.{AddsFiles}
use Rattle.pawk_map.proofs.stream.add_all.Given as goal

abbrev pub invariant-loop-feed : goal.invariant-loop-feed
invariant-loop-feed g l = record {
  adds : AddsFiles g.S.Source.left (ground_of l.fn.reading) (g.K.Sink.taken l.initial.sink) (g.K.Sink.taken l.sink) l.initial.stream.draft l.stream.draft
      (take l.feed-index l.initial.feeds) On;
  by_rs : l.stream.window.rs ≡ l.fn.reading.rs.now;
  untouched : drop l.feed-index l.feeds ≡ drop l.feed-index l.initial.feeds;
}
