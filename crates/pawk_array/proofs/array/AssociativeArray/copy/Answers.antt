use Rattle.std.proofs.Common.{◌≡◌, ◌<◌, ◌-◌, suc, Some, sym, ◌∙◌, ap, slice_get, drop, arith}
use Rattle.std.specs.Option.{option_map}
use Rattle.std.specs.Map.Iter.{deref_pair}
use Rattle.pawk_value.specs.Value.{shown}
use Rattle.pawk_array.specs.Entries.{put}
use Rattle.pawk_keyed_map.specs.Keys.{text_of}
use Rattle.pawk_array.specs.ArrayViews.{entries_of}
use Rattle.pawk_keyed_map.proofs.PairsLemmas.{entries_from}
use Rattle.pawk_array.proofs.array.AssociativeArray.copy.Goals as goal

pub loop-place-preserved : goal.loop-place-preserved
loop-place-preserved c =
    let es = c.self.inside.map.entries in
    let pair = c.unwrap.result in
    let positive : 0 < c.loop-place.place = omega arith in
    let next : suc (c.loop-place.place - 1) ≡ c.loop-place.place = omega arith in
    let at : slice_get es (c.loop-place.place - 1) ≡ Some (pair.0.now, pair.1.now) = sym c.get_index.ensures.entry ∙ ap (option_map deref_pair) c.unwrap.ensures in
    let before = entries_from shown es (c.loop-place.place - 1) (pair.0.now, pair.1.now) at in
    record {
      within = omega (arith, c.loop-place.invariant.within);
      so_far =
          c.in_ok-insert_copy.ensures
          ∙ ap (λ v. put c.text.result.now v (entries_of c.loop-place.map.entries)) c.lend.ensures
          ∙ ap (λ k. put k (shown pair.1.now) (entries_of c.loop-place.map.entries)) c.text.ensures
          ∙ ap (put (text_of pair.0.now) (shown pair.1.now)) (c.loop-place.invariant.so_far ∙ ap (λ n. entries_of (drop n es)) (sym next))
          ∙ sym before;
    }
