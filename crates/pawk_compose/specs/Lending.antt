-- What the marks of an array are once one that they lent is given back.
use Rattle.std.specs.Prelude.{ℕ, List, Result}
use Rattle.std.specs.Borrow.{Fml, MutBor, LendsIfOk}
use Rattle.pawk_frozen.specs.declared.mark.CellMark.{CellMark}
use Rattle.pawk_frozen.specs.contracts.mark.CellMark as mark
use Rattle.pawk_frozen.specs.Marks.{Marks, put_mark}
use Rattle.pawk_frozen.specs.MarkViews.{mark_view}
use Rattle.pawk_compose.specs.contracts.array.ArrayMarks.{the_row}

-- they have at the key the last mark that was written, and after a refusal they are as they were
abbrev pub LendsMark : {E : Type 0} → MutBor Marks → List ℕ → Result (MutBor CellMark) E → Fml
LendsMark s k r = LendsIfOk the_row mark.the_row s r (λ w. put_mark k (mark_view w) s.now) s.now
