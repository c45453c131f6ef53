use Rattle.std.proofs.Common.{◌≡◌, Global, List, Vec, length, map, sym, ◌∙◌, ap, subst, arith}
use Rattle.std.specs.Vec.{with_items}
use Rattle.std.proofs.lemmas.List.{length-map, with_items_is}
use Rattle.std.proofs.lemmas.Result.{on_ok_weaker}
use Rattle.pawk_world.specs.Worlds.{scalar, element}
use Rattle.pawk_frozen.specs.declared.mark.CellMark.{CellMark}
use Rattle.pawk_frozen.specs.Marks.{Marks, Table}
use Rattle.pawk_frozen.specs.MarkViews.{mark_view}
use Rattle.pawk_shards.specs.Joined.{AreComposed}
use Rattle.pawk_compose.specs.Compositions.{HasSlotsOf}
use Rattle.pawk_compose.proofs.TableLemmas.{all_kept, are_composed, arrays_from, arrays_joined_from, scalars_composed, scalars_to}
use Rattle.pawk_compose.proofs.composition.Composition.add.Goals as goal

-- the table that is seen once the slices are given back
abbrev seen_table : Vec CellMark Global → Vec Marks Global → List CellMark → List Marks → Table
seen_table vs ws news others = record { scalars = map mark_view (with_items vs news).items; arrays = (with_items ws others).items }

same_view : (vs : Vec CellMark Global) (ws : Vec Marks Global) (news : List CellMark) (others : List Marks) → length news ≡ vs.len → length others ≡ ws.len →
    record { scalars = map mark_view news; arrays = others } ≡ seen_table vs ws news others
same_view vs ws news others long wide =
    λ j. record { scalars = map mark_view (sym (with_items_is vs news long) j); arrays = sym (with_items_is ws others wide) j }

pub append_scalars-requires-clause-follow : goal.append_scalars-requires-clause-follow
append_scalars-requires-clause-follow c =
    let t = c.args.self.now in
    let u = c.args.table in
    let first : map mark_view c.as_mut_slice.result.now ≡ t.scalars = ap (map mark_view) c.as_mut_slice.ensures.value ∙ ap (λ (x : Table). x.scalars) c.self.view_is in
    scalars_to c.as_mut_slice.result.now c.into_marks-scalars.result.0.items t.scalars u.scalars first c.into_marks-scalars.ensures.scalars (λ n lt. c.requires.marks (scalar n))

pub append_arrays-requires-clause-follow : goal.append_arrays-requires-clause-follow
append_arrays-requires-clause-follow c =
    let t = c.args.self.now in
    let u = c.args.table in
    let first : c.as_mut_slice-2.result.now ≡ t.arrays = c.as_mut_slice-2.ensures.value ∙ ap (λ (x : Table). x.arrays) c.self.view_is in
    arrays_from t.arrays u.arrays c.as_mut_slice-2.result.now c.into_marks-scalars.result.1.items (sym first) (sym c.into_marks-scalars.ensures.arrays)
    (λ n lt key. c.requires.marks (element n key))

pub returns-clause-composed : goal.returns-clause-composed
returns-clause-composed c =
    let t = c.args.self.now in
    let u = c.args.table in
    let news = c.append_scalars.new.first in
    let others = c.append_arrays.new.first in
    let w : Table = record { scalars = map mark_view news; arrays = others } in
    let ms = c.as_mut_slice.result.now in
    let ns = c.into_marks-scalars.result.0.items in
    let es = c.as_mut_slice-2.result.now in
    let fs = c.into_marks-scalars.result.1.items in
    let scalars : map mark_view ms ≡ t.scalars = ap (map mark_view) c.as_mut_slice.ensures.value ∙ ap (λ (x : Table). x.scalars) c.self.view_is in
    let arrays : es ≡ t.arrays = c.as_mut_slice-2.ensures.value ∙ ap (λ (x : Table). x.arrays) c.self.view_is in
    let slots : HasSlotsOf t w = record {
      scalars = omega (arith, ap length scalars, length-map ms mark_view, length-map news mark_view, c.append_scalars.auto.first);
      arrays = omega (arith, ap length arrays, c.append_arrays.auto.first);
    } in
    let all = scalars_composed ms ns t.scalars u.scalars scalars c.into_marks-scalars.ensures.scalars news c.append_scalars.ensures in
    let long : length news ≡ c.self.inside.scalars.len = omega (arith, c.append_scalars.auto.first, ap length c.as_mut_slice.ensures.value, c.self.inside.scalars.ok.0) in
    let wide : length others ≡ c.self.inside.arrays.len = omega (arith, c.append_arrays.auto.first, ap length c.as_mut_slice-2.ensures.value, c.self.inside.arrays.ok.0) in
    let seen = same_view c.self.inside.scalars c.self.inside.arrays news others long wide in
    on_ok_weaker c.append_arrays.result
    (λ each. subst (AreComposed t u) seen (are_composed t u w c.requires slots all (arrays_joined_from es fs others t.arrays u.arrays arrays c.into_marks-scalars.ensures.arrays each)))
    c.append_arrays.ensures

pub returns-clause-kept : goal.returns-clause-kept
returns-clause-kept c =
    let t = c.args.self.now in
    let u = c.args.table in
    let w = seen_table c.self.inside.scalars c.self.inside.arrays c.append_scalars.new.first c.append_arrays.new.first in
    on_ok_weaker c.append_arrays.result (λ one. all_kept t u w c.requires one) (returns-clause-composed c)
