use Rattle.std.proofs.Common.{◌≡◌, ◌+◌, length, refl, arith, rules}
use Rattle.pawk_pieces.specs.Pieces.{piece_items, piece_records}
use Rattle.pawk_map.specs.Courses.{WritesApart}
use Rattle.pawk_map.specs.Maps.{Tells}
use Rattle.pawk_map.specs.Readings.{ground_of}
use Rattle.pawk_map.specs.declared.run.Run.{Run}
use Rattle.pawk_map.proofs.SayLemmas.{kept_after}
use Rattle.pawk_map.proofs.StreamLemmas.{piece_written, piece_counted}
use Rattle.pawk_map.proofs.stream.run_piece.Goals as goal

pub returns-clause-tells : goal.returns-clause-tells
returns-clause-tells g c =
    let u = ground_of c.args.reading in
    let old = c.args.progress in
    let piece = c.args.piece in
    let taken = g.K.Sink.taken c.args.sink.now in
    let now_taken = g.K.Sink.taken c.write_apart.new.sink in
    let nr = c.args.reading.setting.state.now.nr + c.in_ok-before.before in
    let before : c.in_ok-before.before ≡ old.records + c.args.reading.before = search rules in
    let at : nr ≡ u.nr + old.records = omega (arith, before) in
    kept_after c.write_apart.result (λ (run : Run). WritesApart taken now_taken old piece.name.now c.in_ok-apart.apart run)
    (λ (run : Run). Tells u taken now_taken old (piece_items piece) run.course run.progress)
    (λ run w. piece_written u (refl, refl) taken now_taken old piece c.in_ok-apart.apart run w nr at c.requires.by_rs c.in_ok-apart.ensures)
    c.write_apart.ensures

pub returns-clause-counted : goal.returns-clause-counted
returns-clause-counted g c =
    let u = ground_of c.args.reading in
    let old = c.args.progress in
    let piece = c.args.piece in
    let taken = g.K.Sink.taken c.args.sink.now in
    let now_taken = g.K.Sink.taken c.write_apart.new.sink in
    let nr = c.args.reading.setting.state.now.nr + c.in_ok-before.before in
    let before : c.in_ok-before.before ≡ old.records + c.args.reading.before = search rules in
    let at : nr ≡ u.nr + old.records = omega (arith, before) in
    kept_after c.write_apart.result (λ (run : Run). WritesApart taken now_taken old piece.name.now c.in_ok-apart.apart run)
    (λ (run : Run). run.records ≡ length (piece_records piece))
    (λ run w. piece_counted u (refl, refl) taken now_taken old piece c.in_ok-apart.apart run w nr at c.requires.by_rs c.in_ok-apart.ensures)
    c.write_apart.ensures
