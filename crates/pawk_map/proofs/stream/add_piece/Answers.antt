use Rattle.std.proofs.Common.{◌≡◌, ◌∙◌, ◌+◌, ◌++◌, [], None, length, ap, sym, subst, arith, rules}
use Rattle.pawk_records.specs.Records.{records_by}
use Rattle.pawk_pieces.specs.Pieces.{piece_records}
use Rattle.pawk_map.specs.Maps.{Adds, Tells, held_items, numbered_in}
use Rattle.pawk_map.specs.Readings.{ground_of}
use Rattle.pawk_map.specs.declared.draft.Course.{Course}
use Rattle.pawk_map.specs.declared.draft.Course.TheVariants.{On, Over}
use Rattle.pawk_map.specs.declared.draft.Draft.{Draft}
use Rattle.pawk_map.specs.declared.stream.Added.{Added}
use Rattle.pawk_map.proofs.SayLemmas.{kept_after}
use Rattle.pawk_map.proofs.MapLemmas.{adds_none, adds_then, adds_over}
use Rattle.pawk_map.proofs.StreamLemmas.{held_added, no_bytes, no_record}
use Rattle.pawk_map.proofs.stream.add_piece.Goals as goal

pub returns-in-On-clause-adds : goal.returns-in-On-clause-adds
returns-in-On-clause-adds g c =
    let u = ground_of c.args.reading in
    let piece = c.args.piece in
    let rs = piece.rs.now in
    let a = g.K.Sink.taken c.args.sink.now in
    let b = g.K.Sink.taken c.run_held.new.sink in
    let e = g.K.Sink.taken c.hold_last.new.sink in
    let mid : Draft = record { progress = c.in_ok-progress.progress; held = None } in
    let front = c.in_ok-bytes.bytes.items in
    let last = c.in_ok-bytes.last.items in
    let split : piece_records piece ≡ records_by rs front ++ records_by rs last =
    subst (λ r. records_by r piece.bytes.items ≡ records_by r front ++ records_by r last) c.of-separator.ensures c.in_ok-bytes.ensures in
    let told : Tells u a b c.args.draft.progress (held_items u.rs c.args.draft.held) On c.in_ok-progress.progress =
    subst (λ (o : Course). Tells u a b c.args.draft.progress (held_items u.rs c.args.draft.held) o c.in_ok-progress.progress) c.in-On.is c.in_ok-progress.ensures in
    kept_after c.hold_last.result
    (λ (x : Added). Adds u b e mid (numbered_in piece.name.now piece.fnr (records_by rs front ++ records_by u.rs last)) x.course x.draft)
    (λ (x : Added). Adds u a e c.args.draft (numbered_in piece.name.now piece.fnr (piece_records piece)) x.course x.draft)
    (λ x adds.
    adds_then u a b e c.args.draft mid x.draft [] (numbered_in piece.name.now piece.fnr (piece_records piece)) x.course (held_added u a b c.args.draft On mid.progress told)
    (subst (λ l. Adds u b e mid (numbered_in piece.name.now piece.fnr l) x.course x.draft)
    (subst (λ r. records_by rs front ++ records_by r last ≡ piece_records piece) c.requires.by_rs (sym split)) adds))
    c.hold_last.ensures.adds

pub returns-in-On-clause-counted : goal.returns-in-On-clause-counted
returns-in-On-clause-counted g c =
    let u = ground_of c.args.reading in
    let piece = c.args.piece in
    let rs = piece.rs.now in
    let front = c.in_ok-bytes.bytes.items in
    let last = c.in_ok-bytes.last.items in
    let split : piece_records piece ≡ records_by rs front ++ records_by rs last =
    subst (λ r. records_by r piece.bytes.items ≡ records_by r front ++ records_by r last) c.of-separator.ensures c.in_ok-bytes.ensures in
    kept_after c.hold_last.result
    (λ (x : Added). x.fnr ≡ piece.fnr + length (records_by rs front ++ records_by u.rs last))
    (λ (x : Added). x.course ≡ On → x.fnr ≡ piece.fnr + length (piece_records piece))
    (λ x counted. λ on. subst (λ l. x.fnr ≡ piece.fnr + length l) (subst (λ r. records_by rs front ++ records_by r last ≡ piece_records piece) c.requires.by_rs (sym split)) counted)
    c.hold_last.ensures.counted

pub returns-in-Over-clause-adds : goal.returns-in-Over-clause-adds
returns-in-Over-clause-adds g c =
    let u = ground_of c.args.reading in
    let piece = c.args.piece in
    let a = g.K.Sink.taken c.args.sink.now in
    let b = g.K.Sink.taken c.run_held.new.sink in
    let now : Draft = record { progress = c.in_ok-progress.progress; held = None } in
    let told : Tells u a b c.args.draft.progress (held_items u.rs c.args.draft.held) Over c.in_ok-progress.progress =
    subst (λ (o : Course). Tells u a b c.args.draft.progress (held_items u.rs c.args.draft.held) o c.in_ok-progress.progress) c.in-Over.is c.in_ok-progress.ensures in
    subst (λ (o : Course). Adds u a b c.args.draft (numbered_in piece.name.now piece.fnr (piece_records piece)) o now) (sym c.in-Over.is)
    (adds_over u a b c.args.draft now [] (numbered_in piece.name.now piece.fnr (piece_records piece)) (held_added u a b c.args.draft Over now.progress told))

pub returns-then-count_records-eq0-clause-adds : goal.returns-then-count_records-eq0-clause-adds
returns-then-count_records-eq0-clause-adds g c =
    let u = ground_of c.args.reading in
    let piece = c.args.piece in
    let rs = piece.rs.now in
    let front = c.in_ok-bytes.bytes.items in
    let last = c.in_ok-bytes.last.items in
    let split : piece_records piece ≡ records_by rs front ++ records_by rs last =
    subst (λ r. records_by r piece.bytes.items ≡ records_by r front ++ records_by r last) c.of-separator.ensures c.in_ok-bytes.ensures in
    let none : length front ≡ 0 = search rules in
    let few : length (records_by rs last) ≡ 0 =
    sym (c.count_records.ensures ∙ ap (λ r. length (records_by r c.deref.result.now)) c.of-separator.ensures ∙ ap (λ b. length (records_by rs b)) c.deref.ensures.value)
    ∙ c.if-count_records-eq0.true in
    subst (λ l. Adds u (g.K.Sink.taken c.args.sink.now) (g.K.Sink.taken c.args.sink.now) c.args.draft (numbered_in piece.name.now piece.fnr l) On c.args.draft)
    (sym (no_record rs piece.bytes.items front last split (no_bytes front none) few)) (adds_none u (g.K.Sink.taken c.args.sink.now) c.args.draft)

pub returns-then-count_records-eq0-clause-counted : goal.returns-then-count_records-eq0-clause-counted
returns-then-count_records-eq0-clause-counted g c = λ on.
    let piece = c.args.piece in
    let rs = piece.rs.now in
    let front = c.in_ok-bytes.bytes.items in
    let last = c.in_ok-bytes.last.items in
    let split : piece_records piece ≡ records_by rs front ++ records_by rs last =
    subst (λ r. records_by r piece.bytes.items ≡ records_by r front ++ records_by r last) c.of-separator.ensures c.in_ok-bytes.ensures in
    let none : length front ≡ 0 = search rules in
    let few : length (records_by rs last) ≡ 0 =
    sym (c.count_records.ensures ∙ ap (λ r. length (records_by r c.deref.result.now)) c.of-separator.ensures ∙ ap (λ b. length (records_by rs b)) c.deref.ensures.value)
    ∙ c.if-count_records-eq0.true in
    let all : length (piece_records piece) ≡ 0 = ap length (no_record rs piece.bytes.items front last split (no_bytes front none) few) in
    omega (arith, all)
