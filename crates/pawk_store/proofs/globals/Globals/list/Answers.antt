use Rattle.std.proofs.Common.{◌≡◌, ◌∙◌, sym, ap, map, List, length, subst}
use Rattle.std.specs.Prelude.{IfOk}
use Rattle.std.proofs.lemmas.List.{length-map}
use Rattle.pawk_store.specs.Openings.{texts_of, pairs_of}
use Rattle.pawk_store.specs.Listings.{Named, with_all, scalars_from, arrays_from, specials}
use Rattle.pawk_store.specs.ListingViews.{named_of, special_of}
use Rattle.pawk_store.proofs.ListingLemmas.{listed, seen}
use Rattle.pawk_store.proofs.globals.Globals.list.Goals as goal

pub returns : goal.returns
returns c =
    let g = c.args.self.now in
    let v = special_of c.args.specials.now in
    let names = c.args.names.scalars.now in
    let extras = c.in_ok-extras.extras.items in
    let own = seen c.put_scalars.new.all.entries in
    let size = sym (length-map names (λ name. name.items)) in
    let scalars = c.in_ok-put_scalars.ensures ∙ ap (λ es. with_all (scalars_from 0 (texts_of names) g) (seen es)) c.new-all.ensures.empty in
    let others =
    c.in_ok-put_scalars-2.ensures
    ∙ ap (λ es. with_all (scalars_from (length names) (texts_of es) g) own) c.as_slice.ensures.value
    ∙ ap (λ n. with_all (scalars_from n (texts_of extras) g) own) size
    ∙ ap (with_all (scalars_from (length (texts_of names)) (texts_of extras) g)) scalars in
    let arrays = c.in_ok-put_arrays.ensures ∙ ap (with_all (arrays_from 0 (texts_of c.args.names.arrays.now) g)) others in
    let all =
    c.in_ok-put_specials.ensures
    ∙ ap (with_all (specials v)) arrays
    ∙ listed (texts_of names) (texts_of extras) (texts_of c.args.names.arrays.now) (pairs_of c.args.names.assignments.now) v g c.in_ok-extras.ensures in
    let P : List Named → Type 0 = λ l. IfOk c.in_order.result (λ all. map named_of all.items ≡ l) in
    subst P all c.in_order.ensures
