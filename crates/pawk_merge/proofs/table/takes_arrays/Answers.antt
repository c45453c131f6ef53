use Rattle.std.proofs.Common.{◌≡◌, ◌<◌, ℕ, Bool, [], false, length, ap, sym, ◌∙◌, arith}
use Rattle.pawk_store.specs.Globals.{array_at}
use Rattle.pawk_merge.specs.Tables.{array_marks, array_takes}
use Rattle.pawk_merge.proofs.SlotLemmas.{get_or-default, each_below_false}
use Rattle.pawk_merge.proofs.table.takes_arrays.Goals as goal

pub returns-then-not-takes_array : goal.returns-then-not-takes_array
returns-then-not-takes_array c =
    let i = c.loop-slot.slot in
    let ms = c.args.marks.now in
    let p : ℕ → Bool = λ n. array_takes (array_marks ms n) (array_at c.args.globals.now n) in
    let within : i < length ms = omega (arith, c.loop-slot-test.true, c.loop-slot.invariant.ends) in
    let r = c.index-marks-slot.result in
    let mark : r ≡ array_marks ms i = c.index-marks-slot.is ∙ get_or-default ms i r [] within in
    let refused : p i ≡ false =
    ap (λ m. array_takes m (array_at c.args.globals.now i)) (sym mark) ∙ sym c.takes_array.ensures ∙ c.if-not-takes_array.true in
    sym (each_below_false (length ms) i p within refused)
