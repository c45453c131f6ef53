use Rattle.std.proofs.Common.{◌≡◌, List, ℕ, subst}
use Rattle.std.specs.Io.KnownBytes.{Appends}
use Rattle.pawk_input.specs.Input.{File}
use Rattle.pawk_store.specs.StateViews.{state_of}
use Rattle.pawk_map.specs.Maps.{AreFilesOf, Ground}
use Rattle.pawk_map.specs.Orders.{IsFileFrom, WritesAll, ground_from}
use Rattle.pawk_map.specs.declared.mapped.Mapped.{Mapped}
use Rattle.pawk_map.proofs.SayLemmas.{kept_after}
use Rattle.pawk_map.proofs.OrderLemmas.{file_from, ground_lent, lent_ground}
use Rattle.pawk_map.proofs.map.map_on.Goals as goal

pub returns : goal.returns
returns g c =
    let o = c.args.order in
    let start = c.args.start in
    let roles = c.in-Ok.roles in
    let left = g.S.Source.left in
    let feeds = c.args.feeds.now in
    let a = g.K.Sink.taken c.args.sink.now in
    let b = g.K.Sink.taken c.write_header.new.sink in
    let e = g.K.Sink.taken c.map_records.new.sink in
    let h = c.in_ok-digest.ensures in
    let digest = c.in_ok-digest.digest in
    let lent = ground_lent o start roles (state_of c.lend-state.result) c.deref.result.now in
    let same : lent ≡ ground_from o start roles = lent_ground o start roles (state_of c.lend-state.result) c.deref.result.now c.lend-state.ensures c.deref.ensures.value in
    kept_after c.map_records.result
    (λ (mapped : Mapped). (files : List File) × AreFilesOf left feeds files × WritesAll lent b e digest files mapped)
    (λ (mapped : Mapped). (files : List File) × AreFilesOf left feeds files × (bytes : List ℕ) × Appends a e bytes × IsFileFrom o files bytes mapped start)
    (λ mapped w.
    let f = file_from c.files_are_written.ensures.body o start roles w.0 mapped a b e h.wrote.0 digest c.in-Ok.is h.lines h.wrote.1 h.wrote.2
    (subst (λ (u : Ground). WritesAll u b e digest w.0 mapped) same w.2) in
    (w.0, w.1, f.0, f.1, f.2))
    c.map_records.ensures
