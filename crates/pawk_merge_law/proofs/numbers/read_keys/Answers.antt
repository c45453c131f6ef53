use Rattle.std.proofs.Common.{◌≡◌, List, ℕ, slice_index_or, ap, sym, ◌∙◌, subst}
use Rattle.std.proofs.lemmas.Option.{get_or_from_slice_get}
use borrow.Author.Count.{below_more}
use Rattle.pawk_value.specs.Value.{lent_value}
use Rattle.pawk_value.specs.Conversion.{num_of}
use Rattle.pawk_array.specs.Entries.{found, value_of}
use Rattle.pawk_store.specs.Globals.{array_at}
use Rattle.pawk_commute.specs.Settings.{FitsIfOk}
use Rattle.pawk_merge_law.proofs.ReadyLemmas.{lent_or}
use Rattle.pawk_merge_law.proofs.numbers.read_keys.Goals as goal

pub loop-number-preserved : goal.loop-number-preserved
loop-number-preserved c =
    let es = array_at c.args.globals.now c.args.array in
    let keys = c.args.keys.now in
    let text = c.text.result.now in
    let i = c.loop-number.number in
    let value : lent_value c.unwrap_or.result ≡ value_of (found text es) =
    ap lent_value c.unwrap_or.ensures ∙ lent_or c.get-value.result ∙ ap value_of c.get-value.ensures in
    below_more (λ k. (d : List ℕ) → FitsIfOk (num_of (value_of (found (slice_index_or keys k d) es)))) i c.loop-number.invariant
    (λ d. subst (λ v. FitsIfOk (num_of v)) (value ∙ ap (λ key. value_of (found key es)) (sym (get_or_from_slice_get keys i text d c.text.ensures))) c.read_number.ensures)
