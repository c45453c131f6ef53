use Rattle.std.proofs.Common.{refl}
use Rattle.pawk_map.specs.Readings.{ground_of}
use Rattle.pawk_map.proofs.EndLemmas.{files_end}
use Rattle.pawk_map.proofs.OrderLemmas.{all_written}
use Rattle.pawk_map.proofs.map.map_records.Goals as goal

pub returns : goal.returns
returns g c =
    let u = ground_of c.args.reading in
    let a = g.K.Sink.taken c.args.sink.now in
    let b = g.K.Sink.taken c.add_all.new.sink in
    let d = g.K.Sink.taken c.keep_held.new.sink in
    let e = g.K.Sink.taken c.end_file.new.sink in
    let begin = c.stream_of-stream in
    let old = begin.result.draft in
    let now = c.in_ok-stream.stream.draft in
    let w = c.in_ok-progress.progress in
    let h = c.in_ok-stream.ensures in
    let ends = files_end u h.0 a b d old now w begin.ensures.held begin.ensures.records begin.ensures.name c.in_ok-stream.course h.2
    (c.in_ok-progress.ensures.tells u refl) c.in_ok-progress.ensures.none in
    (h.0, h.1, all_written u h.0 a d e old.progress w c.args.digest ends.0 _ begin.ensures.digest refl ends.1 ends.2 c.in_ok-end_file.ensures.line c.in_ok-end_file.ensures.written)
