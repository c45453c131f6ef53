-- Marks that keys have.
use Rattle.std.proofs.Common.{◌≡◌, ◌≢◌, ℕ, List, Option, Some, None, sym, ap}
use Rattle.pawk_keyed_map.specs.Keyed.{found}
use Rattle.pawk_frozen.specs.Marks.{Mark, blank, Marks, mark_found, mark_or_blank}

some_by : (o : Option Mark) (m : Mark) → mark_or_blank o ≡ m → m ≢ blank → o ≡ Some m
some_by None m e h = absurd (h (sym e))
some_by (Some n) m e h = ap Some e

-- a key that has a mark other than the blank one has it
pub named : (k : List ℕ) (m : Mark) (es : Marks) → mark_found k es ≡ m → m ≢ blank → found k es ≡ Some m
named k m es e h = some_by (found k es) m e h
