use Rattle.std.proofs.Common.{◌≡◌, inl, sym, ◌∙◌, ap}
use Rattle.std.specs.Option.{option_copied_mut}
use Rattle.pawk_value.specs.Value.{shown, Uninit}
use Rattle.pawk_array.specs.Entries.{found, put, value_of}
use Rattle.pawk_array.specs.ArrayViews.{entries_of}
use Rattle.indexmap.specs.IndexMap.{set_value_at}
use Rattle.pawk_keyed_map.proofs.PairsLemmas.{put_written, value_at, rise-seen_by, touched_seen}
use Rattle.pawk_value.specs.declared.values.Value.TheVariants as value
use Rattle.pawk_keyed_map.proofs.EntriesLemmas.{value_touched, put-put}
use Rattle.pawk_array.proofs.PiecesLemmas.{seen_pairs}
use Rattle.pawk_array.proofs.array.AssociativeArray.entry.Goals as goal

pub returns : goal.returns
returns c =
    let k = c.args.key.now in
    let m = c.place_of.new.map in
    let ts = c.settle.new.pieces in
    let gone = c.in_ok-settle.ensures.gone in
    let old = c.settle.new.map.entries in
    let seen : entries_of old ≡ c.args.self.now = sym (seen_pairs ts (entries_of old) gone) ∙ c.settle.ensures.same ∙ c.self.view_is in
    let place = c.in_ok-place.place in
    let unique = c.get_index_mut.ensures.unique in
    let at = c.in_ok-place.ensures.place in
    let touched_by = touched_seen shown value.Uninit k old m.entries c.in_ok-place.ensures.touched in
    let value = value_at shown m unique place k c.unwrap.result.now at (sym c.get_index_mut.ensures.value ∙ ap option_copied_mut c.unwrap.ensures) in (
      (λ i. inl (
        c.unwrap.result.ghost_name,
        λ w.
            (seen_pairs ts (entries_of (set_value_at m.entries place w)) gone
            ∙ put_written shown m unique place k w at
            ∙ ap (put k (shown w)) touched_by
            ∙ put-put k (shown w) (value_of (found k (entries_of old))) (entries_of old) (rise-seen_by shown old)
            ∙ ap (put k (shown w)) seen) i,
      )),
      record { writes_back = tt; value = value_touched Uninit k (entries_of old) (entries_of m.entries) (shown c.unwrap.result.now) touched_by value ∙ ap (λ es. value_of (found k es)) seen },
    )
