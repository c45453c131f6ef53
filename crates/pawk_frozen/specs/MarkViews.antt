-- Marks of the code.
use Rattle.std.specs.Prelude.{List, if◌then◌else◌}
use Rattle.pawk_keyed_map.specs.declared.key.Key.{Key}
use Rattle.pawk_keyed_map.specs.Pairs.{seen_by}
use Rattle.pawk_value.specs.declared.faults.Fault.TheVariants as fault
use Rattle.pawk_value.specs.Value.{shown}
use Rattle.pawk_world.specs.Halts as halt
use Rattle.pawk_world.specs.Worlds.{Answer, gives, halts}
use Rattle.pawk_frozen.specs.Marks.{Mark, blank, summed, last_put, created, Marks}
use Rattle.pawk_frozen.specs.Frozens.{is_sum}
use Rattle.pawk_frozen.specs.declared.mark.Sums.{Sums}
use Rattle.pawk_frozen.specs.declared.mark.CellMark.{CellMark as Code}
use Rattle.pawk_frozen.specs.declared.mark.CellMark.TheVariants as code

abbrev pub sums_view : Sums → Mark
sums_view s = summed s.total s.least s.greatest

abbrev pub mark_view : Code → Mark
mark_view code.Blank = blank
mark_view (code.Summed s) = sums_view s
mark_view (code.Put v) = last_put (shown v)
mark_view code.Created = created

-- pairs of a map, as marks by keys
abbrev pub marks_of : List (Key × Code) → Marks
marks_of es = seen_by mark_view es

-- a mark is kept where its sum may still be one; else what was there stays
abbrev pub kept : {S : Type 0} → Mark → S → S → Answer S (Unit {0})
kept (summed total least greatest) new old = if is_sum total then gives tt new else halts (halt.fault fault.Overflow) old
kept blank new old = gives tt old
kept (last_put v) new old = gives tt old
kept created new old = gives tt old
