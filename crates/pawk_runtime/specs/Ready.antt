-- Leaves that may be lent.
use Rattle.pawk_code.specs.declared.leaf.Leaf.{Leaf}
use Rattle.pawk_code.specs.declared.leaf.Leaf.TheVariants as leaf
use Rattle.pawk_record.specs.Records.{IsPrepared}
use Rattle.pawk_store.specs.declared.state.RecordState.{RecordState}
use Rattle.pawk_store.specs.StateViews.{IsLendable}

-- the leaf may be lent: a field that it names was looked for, and a variable that the run sets was made ready
abbrev pub IsReady : Leaf → RecordState → Type 0
IsReady (leaf.Number z) s = Unit {0}
IsReady (leaf.Text t) s = Unit {0}
IsReady (leaf.Global n) s = Unit {0}
IsReady (leaf.Local i) s = Unit {0}
IsReady (leaf.Special x) s = IsLendable x s
IsReady (leaf.Field n) s = IsPrepared s.line n
