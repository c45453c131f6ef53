use Rattle.std.proofs.Common.{◌≡◌, false}
use Rattle.pawk_map.specs.Maps.{ReadsOn}
use Rattle.pawk_map.specs.Readings.{ground_of}
use Rattle.pawk_map.specs.declared.draft.Course.TheVariants.{On}
use Rattle.pawk_map.proofs.stream.add_feed.Given as goal

abbrev pub invariant-loop : goal.invariant-loop
invariant-loop g l = record {
  reads : ReadsOn (ground_of l.fn.reading) (g.S.Source.left l.initial.feed.source) (g.S.Source.left l.feed.source) (g.K.Sink.taken l.initial.sink) (g.K.Sink.taken l.sink)
      l.initial.feed.name.items l.initial.stream 0 On l.stream l.fnr;
  by_rs : l.stream.window.rs ≡ l.fn.reading.rs.now;
  goes : l.stream.window.ended ≡ false;
  name : l.feed.name ≡ l.initial.feed.name;
}
