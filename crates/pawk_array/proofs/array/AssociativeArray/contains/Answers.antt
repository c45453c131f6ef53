use Rattle.std.proofs.Common.{◌∙◌, ap, sym, is_some}
use Rattle.pawk_value.specs.Value.{shown}
use Rattle.pawk_array.specs.Entries.{found}
use Rattle.pawk_array.specs.ArrayViews.{entries_of}
use Rattle.pawk_keyed_map.proofs.PairsLemmas.{contains_by}
use Rattle.pawk_array.proofs.PiecesLemmas.{seen_pairs}
use Rattle.pawk_array.proofs.array.AssociativeArray.contains.Goals as goal

pub returns : goal.returns
returns c =
    let a = c.self.inside in
    let es = a.map.entries in
    c.contains_key.ensures ∙ contains_by shown c.args.key.now es
    ∙ ap (λ fs. is_some (found c.args.key.now fs)) (sym (seen_pairs a.pieces (entries_of es) (c.is_empty.ensures.0 c.if-not-is_empty.false)) ∙ c.self.view_is)
