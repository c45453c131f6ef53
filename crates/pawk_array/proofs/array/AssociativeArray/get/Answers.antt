use Rattle.std.proofs.Common.{sym, ◌∙◌, ap}
use Rattle.std.specs.Option.{option_map, option_copied}
use Rattle.pawk_value.specs.Value.{shown}
use Rattle.pawk_array.specs.Entries.{found}
use Rattle.pawk_array.specs.ArrayViews.{entries_of}
use Rattle.pawk_keyed_map.proofs.PairsLemmas.{found-seen_by}
use Rattle.pawk_array.proofs.PiecesLemmas.{seen_pairs}
use Rattle.pawk_array.proofs.array.AssociativeArray.get.Goals as goal

pub returns-in-None : goal.returns-in-None
returns-in-None c =
    let a = c.self.inside in
    let seen = sym (seen_pairs a.pieces (entries_of a.map.entries) (c.is_empty.ensures.0 c.if-not-is_empty.false)) ∙ c.self.view_is in
    let value = sym (ap option_copied c.in-None.is) ∙ c.get-2.ensures.value in
    ap (option_map shown) value ∙ sym (found-seen_by shown c.args.key.now a.map.entries) ∙ ap (found c.args.key.now) seen

pub returns-in-Some : goal.returns-in-Some
returns-in-Some c =
    let a = c.self.inside in
    let seen = sym (seen_pairs a.pieces (entries_of a.map.entries) (c.is_empty.ensures.0 c.if-not-is_empty.false)) ∙ c.self.view_is in
    let value = sym (ap option_copied c.in-Some.is) ∙ c.get-2.ensures.value in
    rw c.lend.ensures (ap (option_map shown) value ∙ sym (found-seen_by shown c.args.key.now a.map.entries) ∙ ap (found c.args.key.now) seen)
