use Rattle.std.proofs.Common.{length, sym, ◌∙◌, ap, arith}
use Rattle.pawk_value.specs.Value.{shown}
use Rattle.pawk_array.specs.ArrayViews.{entries_of}
use Rattle.pawk_keyed_map.proofs.PairsLemmas.{length-seen_by}
use Rattle.pawk_array.proofs.PiecesLemmas.{length-with_texts, seen_pairs, seen_pieces, some_pieces}
use Rattle.pawk_array.proofs.array.AssociativeArray.len.Goals as goal

pub returns-then-is_empty : goal.returns-then-is_empty
returns-then-is_empty c =
    let a = c.self.inside in
    c.len.ensures.len ∙ sym (length-seen_by shown a.map.entries c.len.ensures.unique)
    ∙ ap length (sym (seen_pairs a.pieces (entries_of a.map.entries) (c.is_empty.ensures.0 c.if-is_empty.true)) ∙ c.self.view_is)

pub returns-else-is_empty : goal.returns-else-is_empty
returns-else-is_empty c =
    let a = c.self.inside in
    let n = c.len-else-is_empty.ensures in
    n.count ∙ sym (length-with_texts a.pieces (omega (arith, n.count, n.small)))
    ∙ ap length (sym (seen_pieces a.pieces a.map.entries c.self.invariant (some_pieces c.is_empty.result a.pieces c.is_empty.ensures.1 c.if-is_empty.false)) ∙ c.self.view_is)
