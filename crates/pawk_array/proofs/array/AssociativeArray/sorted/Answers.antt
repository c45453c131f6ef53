use Rattle.std.proofs.Common.{map}
use Rattle.std.proofs.lemmas.List.Sorted.{IsPermutation-map}
use Rattle.pawk_array.proofs.KeysLemmas.{keys_in_order, sorted_texts}
use Rattle.pawk_array.proofs.array.AssociativeArray.sorted.Goals as goal

pub returns : goal.returns
returns c =
    let old = c.in_ok-sorted.sorted.items in
    let new = c.sort_unstable.new.self.items in
    let known = c.in_ok-sorted.ensures in
    let moved = IsPermutation-map (λ x. x.text.now) old new c.sort_unstable.ensures.permutation in
    record {
      keys = keys_in_order c.args.self.now (map (λ x. x.text.now) old) (map (λ x. x.text.now) new) known.rises known.keys moved (sorted_texts new c.sort_unstable.ensures.sorted);
      rises = known.rises;
    }
