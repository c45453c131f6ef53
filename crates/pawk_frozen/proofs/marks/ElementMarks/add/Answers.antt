use Rattle.std.proofs.lemmas.Int.{to_z-of_z}
use Rattle.pawk_frozen.specs.Frozens.{signed_amount}
use Rattle.pawk_frozen.specs.MarkViews.{mark_view}
use Rattle.pawk_frozen.proofs.TableLemmas.{key_added}
use Rattle.pawk_frozen.proofs.marks.ElementMarks.add.Goals as goal

pub returns : goal.returns
returns c =
    let here = simp (to_z-of_z, c.ranges.amount) at c.add.ensures.answer in
    key_added c.args.key.now c.args.self.now (signed_amount c.args.sign c.args.amount) (mark_view c.in_ok-mark.mark.now) (mark_view c.add.new.self) c.add.result
    c.in_ok-mark.ensures.rise c.in_ok-mark.ensures.value c.add.ensures.before here
