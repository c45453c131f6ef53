use Rattle.std.proofs.Common.{◌≡◌, Bool, false, List, ◌++◌, length, take, drop, sym, ◌∙◌, subst, arith}
use Rattle.std.proofs.lemmas.List.{take_at}
use lib.ListN.{replicate}
use Rattle.pawk_syntax_check.specs.Marks.{IsForced}
use Rattle.pawk_syntax_check.proofs.Marking.{nothing_marked}
use Rattle.pawk_syntax_check.proofs.marks.marks.Goals as goal

pub returns-clause-forced : goal.returns-clause-forced
returns-clause-forced c = λ k e.
    let P : List Bool → Type 0 = IsForced k in
    let m = c.settle.new.marks in
    let same : take c.in_ok-marks.marks.len (m ++ drop (length m) c.in_ok-marks.marks.items) ≡ m = take_at m (drop (length m) c.in_ok-marks.marks.items) c.in_ok-marks.marks.len (omega arith) in
    let begins : c.deref_mut.result.now ≡ replicate c.args.count false = c.deref_mut.ensures.value ∙ c.in_ok-marks.ensures.items_if_clones_equal (λ y f. f) in
    subst P (sym same) (c.settle.ensures.forced k e (subst P (sym begins) (nothing_marked k c.args.count)))
