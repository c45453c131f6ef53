use Rattle.std.proofs.Common.{◌∙◌, refl, subst}
use Rattle.pawk_records.specs.Records.{records_by}
use Rattle.pawk_window.specs.Windows.{with_records}
use Rattle.pawk_map.specs.Maps.{Adds, numbered_in}
use Rattle.pawk_map.specs.Readings.{ground_of}
use Rattle.pawk_map.specs.declared.stream.Stream.{Stream}
use Rattle.pawk_map.proofs.StreamLemmas.{window_added}
use Rattle.pawk_map.proofs.stream.step.Goals as goal

pub returns-clause-reads : goal.returns-clause-reads
returns-clause-reads g c =
    let u = ground_of c.args.reading in
    let taken = g.K.Sink.taken c.args.sink.now in
    let now_taken = g.K.Sink.taken c.add_piece.new.sink in
    let added = c.in_ok-draft.field-0 in
    let records = c.in_ok-next_records.field-0 in
    let come = c.in_ok-next_records.ensures.come in
    let new : Stream = record { draft = added.draft; window = c.next_records.new.self; spare = added.bytes } in
    window_added u _ _ taken now_taken c.args.feed.now.name.items c.args.stream new c.args.fnr added.fnr added.course (with_records c.next_records.new.self records.items)
    come.bytes come.whole come.end (come.same ∙ c.requires.by_rs) refl refl
    (subst (λ n. Adds u taken now_taken c.args.stream.draft (numbered_in n c.args.fnr (records_by u.rs records.items)) added.course added.draft) c.as_slice.ensures.value c.in_ok-draft.ensures.adds)
    c.in_ok-draft.ensures.counted

pub returns-clause-by_rs : goal.returns-clause-by_rs
returns-clause-by_rs g c = c.in_ok-next_records.ensures.come.same ∙ c.requires.by_rs
