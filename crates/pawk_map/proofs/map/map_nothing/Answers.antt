use Rattle.std.proofs.Common.{false, refl}
use Rattle.pawk_map.specs.declared.mapped.Mapped.{Mapped}
use Rattle.pawk_map.proofs.OrderLemmas.{file_empty}
use Rattle.pawk_map.proofs.map.map_nothing.Goals as goal

pub returns : goal.returns
returns g c =
    let a = g.K.Sink.taken c.args.sink.now in
    let b = g.K.Sink.taken c.write_header.new.sink in
    let e = g.K.Sink.taken c.end_file.new.sink in
    let h = c.in_ok-digest.ensures in
    let mapped : Mapped = record { records = 0; is_left = false } in
    file_empty c.files_are_written.ensures.body c.args.order mapped a b e h.wrote.0 c.in_ok-digest.digest refl h.lines h.wrote.1 h.wrote.2 c.in_ok-end_file.ensures.line c.in_ok-end_file.ensures.written
