use Rattle.std.proofs.Common.{◌∙◌, ◌++◌, ◌<◌, ap, length, map, subst, sym}
use Rattle.std.specs.Prelude.{slice_set}
use Rattle.std.proofs.lemmas.List.{get_or-map, map-set}
use Rattle.pawk_value.specs.Value.{shown, Text, Uninit}
use Rattle.pawk_value.specs.Conversion.{text_of}
use Rattle.pawk_store.proofs.appending.append_in.Goals as goal

pub returns-in_ok-append : goal.returns-in_ok-append
returns-in_ok-append c =
    let values = c.args.values.now.items in
    let old = c.index_mut.result.now in
    let below : c.args.slot < length values = subst (λ n. c.args.slot < n) (c.len.ensures ∙ c.args.values.now.ok.0) c.if-slot-len.true in
    map-set shown values c.args.slot c.append.new.value
    ∙ ap (slice_set (map shown values) c.args.slot) (c.in_ok-append.ensures
    ∙ ap (λ v. Text (text_of v ++ c.args.more.now)) (ap shown c.index_mut.ensures.value ∙ sym (get_or-map shown values c.args.slot old Uninit below)))
