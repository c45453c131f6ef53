use Rattle.std.proofs.Common.{◌≡◌, ◌++◌, ◌∷◌, [], Some, map, sym, ◌∙◌, ap, subst, arith, slice_get, get_or}
use Rattle.std.specs.Option.{option_map}
use Rattle.std.specs.Map.Iter.{deref_pair}
use Rattle.std.proofs.lemmas.List.{map-append, map_more, take_all}
use Rattle.std.proofs.lemmas.Option.{get_or_from_slice_get}
use Rattle.pawk_keyed_map.specs.Keys.{text_of}
use Rattle.pawk_keyed_map.specs.declared.key.Key.{Key}
use Rattle.pawk_array.specs.ArrayViews.{entries_of}
use Rattle.pawk_array.specs.Walks.{AreKeysOf}
use Rattle.pawk_array.proofs.KeysLemmas.{pair_keys}
use Rattle.pawk_value.specs.declared.values.Value.{Value}
use Rattle.pawk_array.proofs.array.map_keys.Goals as goal

pub loop-place-preserved : goal.loop-place-preserved
loop-place-preserved c =
    let es = c.args.pairs.now.entries in
    let pair = c.unwrap.result in
    let place = c.loop-place.place in
    let at : slice_get es place ≡ Some (pair.0.now, pair.1.now) = sym c.get_index.ensures.entry ∙ ap (option_map deref_pair) c.unwrap.ensures in
    let here = get_or_from_slice_get es place (pair.0.now, pair.1.now) (pair.0.now, pair.1.now) at in
    let more = map_more (λ (e : Key × Value). text_of e.0) es place (pair.0.now, pair.1.now) (omega (arith, c.len-place-end.ensures.len)) in
    rw c.in_ok-push.ensures.items
    (map-append _ c.loop-place.all.items _
    ∙ ap (λ x. map (λ y. y.text.now) c.loop-place.all.items ++ x ∷ []) (c.new.ensures ∙ c.text.ensures ∙ ap (λ (e : Key × Value). text_of e.0) (sym here))
    ∙ ap (λ xs. xs ++ text_of (get_or es place (pair.0.now, pair.1.now)).0 ∷ []) c.loop-place.invariant
    ∙ sym more)

pub returns : goal.returns
returns c =
    let es = c.args.pairs.now.entries in
    let whole : map (λ x. x.text.now) c.loop-place.all.items ≡ map (λ e. text_of e.0) es =
    c.loop-place.invariant ∙ ap (map (λ (e : Key × Value). text_of e.0)) (take_all c.loop-place.place es (omega (arith, c.len-place-end.ensures.len))) in
    subst (AreKeysOf (entries_of es)) (sym whole) (pair_keys es c.len.ensures.unique)
