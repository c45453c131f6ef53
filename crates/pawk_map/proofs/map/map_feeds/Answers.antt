use Rattle.std.proofs.Common.{List, ℕ, sym, subst}
use Rattle.std.specs.Io.KnownBytes.{Appends}
use Rattle.pawk_input.specs.Input.{File}
use Rattle.pawk_pieces.specs.declared.begin.Begun.{Begun}
use Rattle.pawk_map.specs.Maps.{AreFilesOf}
use Rattle.pawk_map.specs.Orders.{IsEmptyFile, IsFileAfter, IsFileFrom, IsMapOf}
use Rattle.pawk_map.specs.declared.mapped.Mapped.{Mapped}
use Rattle.pawk_map.proofs.SayLemmas.{kept_after}
use Rattle.pawk_map.proofs.FileLemmas.{some_files}
use Rattle.pawk_map.proofs.map.map_feeds.Goals as goal

pub returns-in-Ended : goal.returns-in-Ended
returns-in-Ended g c =
    let o = c.args.order in
    let left = g.S.Source.left in
    let feeds = c.args.feeds.now in
    let a = g.K.Sink.taken c.args.sink.now in
    let b = g.K.Sink.taken c.map_nothing.new.sink in
    let begun = c.in_ok-begin_flow.field-0 in
    let some = some_files left feeds in
    kept_after c.map_nothing.result
    (λ (mapped : Mapped). (bytes : List ℕ) × Appends a b bytes × IsEmptyFile o bytes mapped)
    (λ (mapped : Mapped). (files : List File) × AreFilesOf left feeds files × (bytes : List ℕ) × Appends a b bytes × IsMapOf o files bytes mapped)
    (λ mapped h. (some.0, some.1, h.0, h.1, (begun, c.in_ok-begin_flow.ensures, subst (λ (x : Begun). IsFileAfter o some.0 h.0 mapped x) (sym c.in-Ended.is) h.2)))
    c.map_nothing.ensures

pub returns : goal.returns
returns g c =
    let o = c.args.order in
    let left = g.S.Source.left in
    let feeds = c.args.feeds.now in
    let a = g.K.Sink.taken c.args.sink.now in
    let b = g.K.Sink.taken c.map_on.new.sink in
    let begun = c.in_ok-begin_flow.field-0 in
    kept_after c.map_on.result
    (λ (mapped : Mapped). (files : List File) × AreFilesOf left feeds files × (bytes : List ℕ) × Appends a b bytes × IsFileFrom o files bytes mapped c.in-Flows.start)
    (λ (mapped : Mapped). (files : List File) × AreFilesOf left feeds files × (bytes : List ℕ) × Appends a b bytes × IsMapOf o files bytes mapped)
    (λ mapped h. (h.0, h.1, h.2, h.3, (begun, c.in_ok-begin_flow.ensures, subst (λ (x : Begun). IsFileAfter o h.0 h.2 mapped x) (sym c.in-Flows.is) h.4)))
    c.map_on.ensures
