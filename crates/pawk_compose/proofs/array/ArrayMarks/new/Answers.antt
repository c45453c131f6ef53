use Rattle.std.proofs.Common.{sym, subst}
use Rattle.pawk_frozen.specs.Marks.{Marks}
use Rattle.pawk_compose.specs.Compositions.{AllFollow, AreJoined}
use Rattle.pawk_compose.proofs.KeyLemmas.{all_follow_nothing, the_same}
use Rattle.pawk_compose.proofs.array.ArrayMarks.new.Goals as goal

pub add-requires : goal.add-requires
add-requires c = subst (λ (es : Marks). AllFollow es c.args.marks) (sym c.empty-first.ensures) (all_follow_nothing c.args.marks)

pub returns : goal.returns
returns c =
    the_same c.args.marks c.add.new.self c.in_ok-add.ensures.rise c.order_law.ensures
    (subst (λ (es : Marks). AreJoined es c.args.marks c.add.new.self) c.empty-first.ensures c.in_ok-add.ensures.joined)
