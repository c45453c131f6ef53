use Rattle.std.proofs.Common.{◌≡◌, [], Some, refl, sym, ◌∙◌, ap, slice_get, is_some}
use Rattle.std.specs.Option.{option_map}
use Rattle.std.specs.Map.Iter.{deref_pair}
use Rattle.pawk_value.specs.Value.{shown, Maybe, Uninit}
use Rattle.pawk_array.specs.Entries.{found, touched, value_of}
use Rattle.pawk_array.specs.ArrayViews.{entries_of}
use Rattle.pawk_array.specs.Pieces.{with_texts}
use Rattle.pawk_keyed_map.proofs.PairsLemmas.{entry_at, touched_seen}
use Rattle.pawk_value.specs.declared.values.Value.TheVariants as value
use Rattle.pawk_keyed_map.proofs.EntriesLemmas.{value_touched, touched_found}
use Rattle.pawk_array.proofs.PiecesLemmas.{found-piece, rise-seen, seen_pairs, seen_pieces, some_pieces}
use Rattle.pawk_array.proofs.array.AssociativeArray.touch.Goals as goal
use Rattle.pawk_array.proofs.array.AssociativeArray.touch.Goals.{then-not-is_empty+in_default+in_ok-unfold, else-not-is_empty}

pub returns-in-Some : goal.returns-in-Some
returns-in-Some c =
    let a = c.self.inside in
    let k = c.args.key.now in
    let some = some_pieces c.is_empty.result a.pieces c.is_empty.ensures.1 c.if-not-is_empty.true in
    let place = c.in-Some.ensures in
    let here : found k (with_texts 0 a.pieces (entries_of a.map.entries)) ≡ Some (Maybe c.piece.result.now) =
    ap (found k) (seen_pieces a.pieces a.map.entries c.self.invariant some)
    ∙ found-piece a.pieces k c.in-Some.place c.piece.result.now place.small place.place.1 c.piece.ensures in
    let stays = touched_found Uninit k (with_texts 0 a.pieces (entries_of a.map.entries)) (rise-seen a.pieces a.map.entries) (ap is_some here) in (
      (refl, λ _. tt, stays ∙ ap (touched k) c.self.view_is),
      record { touched = tt; value = sym (ap value_of here) ∙ ap (λ es. value_of (found k es)) c.self.view_is },
    )

pub returns : goal.returns
returns c =
    let k = c.args.key.now in
    let now = c.if-not-is_empty.self-inside in
    let old = now.map.entries in
    let new = c.place_of-2.new.map.entries in
    let gone : now.pieces ≡ [] = elim c.if-not-is_empty.branch [
      | then-not-is_empty+in_default+in_ok-unfold w ↦ ap (λ a. a.pieces) w.self-inside-is ∙ w.in_ok-unfold.ensures.gone
      | else-not-is_empty w ↦ ap (λ a. a.pieces) w.self-inside-is ∙ c.is_empty.ensures.0 w.if-not-is_empty.false
    ] in
    let same : with_texts 0 now.pieces (entries_of old) ≡ c.args.self.now = elim c.if-not-is_empty.branch [
      | then-not-is_empty+in_default+in_ok-unfold w ↦ ap (λ a. with_texts 0 a.pieces (entries_of a.map.entries)) w.self-inside-is ∙ w.unfold.ensures.same ∙ c.self.view_is
      | else-not-is_empty w ↦ ap (λ a. with_texts 0 a.pieces (entries_of a.map.entries)) w.self-inside-is ∙ c.self.view_is
    ] in
    let seen = sym (seen_pairs now.pieces (entries_of old) gone) ∙ same in
    let touched_by = touched_seen shown value.Uninit k old new c.in_ok-element.ensures.touched in
    let pair = c.unwrap.result in
    let at : slice_get new c.in_ok-element.element ≡ Some (pair.0.now, pair.1.now) = sym c.get_index.ensures.entry ∙ ap (option_map deref_pair) c.unwrap.ensures in
    let there = rw c.unwrap.ensures at c.get_index.ensures.value in
    let value = entry_at shown new c.in_ok-element.element k (pair.0.now, pair.1.now) c.in_ok-element.ensures.place at there in (
      (refl, λ _. tt, seen_pairs now.pieces (entries_of new) gone ∙ touched_by ∙ ap (touched k) seen),
      record { touched = tt; value = c.lend.ensures ∙ value_touched Uninit k (entries_of old) (entries_of new) (shown pair.1.now) touched_by value ∙ ap (λ es. value_of (found k es)) seen },
    )
