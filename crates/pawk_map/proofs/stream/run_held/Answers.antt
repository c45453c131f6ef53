use Rattle.std.proofs.Common.{Option, sym, subst}
use Rattle.pawk_input.specs.Input.{file_items}
use Rattle.pawk_records.specs.Records.{records_by}
use Rattle.pawk_map.specs.Maps.{Tells, held_items}
use Rattle.pawk_map.specs.Readings.{ground_of}
use Rattle.pawk_map.specs.declared.draft.Course.TheVariants.{On}
use Rattle.pawk_map.specs.declared.draft.Held.{Held}
use Rattle.pawk_map.proofs.MapLemmas.{tells_none}
use Rattle.pawk_map.proofs.stream.run_held.Goals as goal

pub returns-in-None : goal.returns-in-None
returns-in-None g c =
    let u = ground_of c.args.reading in
    let taken = g.K.Sink.taken c.args.sink.now in
    subst (λ (o : Option Held). Tells u taken taken c.args.progress (held_items u.rs o) On c.args.progress) (sym c.in-None.is) (tells_none u taken c.args.progress)

pub returns-in_ok-run-in-Some : goal.returns-in_ok-run-in-Some
returns-in_ok-run-in-Some g c =
    let u = ground_of c.args.reading in
    let taken = g.K.Sink.taken c.args.sink.now in
    let now_taken = g.K.Sink.taken c.run_piece.new.sink in
    let run = c.in_ok-run-in-Some.run' in
    let held : Held = c.in-Some.field-0 in
    subst (λ (o : Option Held). Tells u taken now_taken c.args.progress (held_items u.rs o) run.course run.progress) (sym c.in-Some.is)
    (subst (λ n. Tells u taken now_taken c.args.progress (file_items 0 n 0 held.fnr (records_by u.rs held.bytes.items)) run.course run.progress) c.deref.ensures.value c.in_ok-run-in-Some.ensures.tells)
