use Rattle.std.proofs.Common.{◌≡◌, ◌∙◌, ◌+◌, length, length-append, ap, arith, rules}
use Rattle.pawk_records.specs.Records.{records_by}
use Rattle.pawk_pieces.specs.Pieces.{piece_records}
use Rattle.pawk_map.specs.Readings.{ground_of}
use Rattle.pawk_map.proofs.StreamLemmas.{piece_last}
use Rattle.pawk_map.proofs.stream.hold_last.Goals as goal

pub returns-clause-adds : goal.returns-clause-adds
returns-clause-adds g c =
    let u = ground_of c.args.reading in
    let piece = c.args.piece in
    let taken = g.K.Sink.taken c.args.sink.now in
    let now_taken = g.K.Sink.taken c.run_piece.new.sink in
    let run = c.in_ok-progress.field-0 in
    let at : c.in_ok-before.before ≡ piece.fnr + length (piece_records piece) =
    let e : c.in_ok-before.before ≡ piece.fnr + run.records = search rules in e ∙ ap (λ n. piece.fnr + n) c.in_ok-progress.ensures.counted in
    piece_last u taken now_taken c.args.progress run.progress piece.name.now piece.fnr c.in_ok-before.before (piece_records piece) c.args.last.items run.course c.in_ok-held.held
    at c.in_ok-held.ensures c.in_ok-progress.ensures.tells

pub returns-clause-counted : goal.returns-clause-counted
returns-clause-counted g c =
    let piece = c.args.piece in
    let rs = c.args.reading.rs.now in
    let run = c.in_ok-progress.field-0 in
    let first : run.records ≡ length (piece_records piece) = c.in_ok-progress.ensures.counted in
    let count : c.count_records-count.result ≡ length (records_by rs c.args.last.items) =
    c.count_records-count.ensures ∙ ap (λ r. length (records_by r c.deref.result.now)) c.of.ensures ∙ ap (λ b. length (records_by rs b)) c.deref.ensures.value in
    let e : c.in_ok-before.before ≡ piece.fnr + run.records = search rules in
    let f : c.in_ok-fnr.fnr ≡ c.in_ok-before.before + c.count_records-count.result = search rules in
    let l = length-append (piece_records piece) (records_by rs c.args.last.items) in
    omega (arith, first, count, e, f, l)
