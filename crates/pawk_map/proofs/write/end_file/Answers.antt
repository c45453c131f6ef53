use Rattle.std.proofs.Common.{◌≡◌, ◌∙◌, ◌++◌, ap}
use Rattle.std.proofs.lemmas.Result.{on_ok_weaker}
use Rattle.std.specs.Io.KnownBytes.{Appends}
use Rattle.hex.specs.Hex.{encode_lower}
use Rattle.pawk_lines.specs.Lines.{line_bytes}
use Rattle.pawk_lines.specs.Lines as lines
use Rattle.pawk_map.proofs.SayLemmas.{end_written}
use Rattle.pawk_map.proofs.write.end_file.Goals as goal

pub returns-clause-written : goal.returns-clause-written
returns-clause-written g c =
    let count = c.args.records in
    let taken = g.K.Sink.taken c.args.sink.now in
    let mid_taken = g.K.Sink.taken c.write_lines.new.sink in
    let now_taken = g.K.Sink.taken c.write_last.new.sink in
    let line_is : c.deref.result.now ≡ line_bytes (lines.records count) =
    c.deref.ensures.value ∙ c.in_ok-push_records.ensures.written ∙ ap (λ l. l ++ line_bytes (lines.records count)) c.new-lines.ensures.items in
    let end_is : c.deref-2.result.now ≡ line_bytes (lines.end (encode_lower c.finalize.result)) =
    c.deref-2.ensures.value ∙ c.in_ok-push_end.ensures.written ∙ ap (λ l. l ++ line_bytes (lines.end (encode_lower c.finalize.result))) c.new-end.ensures.items in
    on_ok_weaker c.write_last.result
    (λ (appends : Appends mid_taken now_taken c.deref-2.result.now).
    end_written taken mid_taken now_taken c.args.digest c.write_lines.new.digest count c.deref.result.now c.finalize.result c.deref-2.result.now
    c.in_ok-write_lines.ensures line_is c.finalize.ensures end_is appends)
    c.write_last.ensures
