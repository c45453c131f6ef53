use Rattle.std.proofs.Common.{inl, sym, ◌∙◌, ap, subst}
use Rattle.std.specs.Option.{option_copied_mut}
use Rattle.pawk_keyed_map.specs.Keyed.{Rise}
use Rattle.pawk_frozen.specs.Marks.{blank, mark_found, put_mark}
use Rattle.pawk_frozen.specs.MarkViews.{mark_view, marks_of}
use Rattle.pawk_keyed_map.proofs.EntriesLemmas.{put-put, value_touched}
use Rattle.pawk_keyed_map.proofs.PairsLemmas.{put_written, value_at, rise-seen_by, touched_seen}
use Rattle.pawk_frozen.specs.declared.mark.CellMark.TheVariants as code
use Rattle.pawk_compose.proofs.array.ArrayMarks.entry.Goals as goal

pub returns : goal.returns
returns c =
    let k = c.args.key.now in
    let m = c.place_of.new.map in
    let old = c.self.inside.map.entries in
    let place = c.in_ok-place.place in
    let unique = c.get_index_mut.ensures.unique in
    let at = c.in_ok-place.ensures.place in
    let named = touched_seen mark_view code.Blank k old m.entries c.in_ok-place.ensures.touched in
    let mark = value_at mark_view m unique place k c.unwrap.result.now at (sym c.get_index_mut.ensures.value ∙ ap option_copied_mut c.unwrap.ensures) in (
      (λ i. inl (
        c.unwrap.result.ghost_name,
        λ w.
            (put_written mark_view m unique place k w at
            ∙ ap (put_mark k (mark_view w)) named
            ∙ put-put k (mark_view w) (mark_found k (marks_of old)) (marks_of old) (rise-seen_by mark_view old)
            ∙ ap (put_mark k (mark_view w)) c.self.view_is) i,
      )),
      record { writes_back = tt; value = value_touched blank k (marks_of old) (marks_of m.entries) (mark_view c.unwrap.result.now) named mark ∙ ap (mark_found k) c.self.view_is; rise = subst Rise c.self.view_is (rise-seen_by mark_view old) },
    )
