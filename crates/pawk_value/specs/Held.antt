-- Values whose bytes lie in a buffer.
use Rattle.std.specs.Prelude.{ℕ, List, length, drop}
use Rattle.pawk_value.specs.Value.{Val, Uninit, Num, Text, Maybe}
use Rattle.pawk_value.specs.declared.held.Held.{Held}
use Rattle.pawk_value.specs.declared.held.Held.TheVariants as held

-- what was appended to the old bytes
abbrev pub added : List ℕ → List ℕ → List ℕ
added old new = drop (length old) new

-- the value of these bytes
abbrev pub held_value : Held → List ℕ → Val
held_value held.Uninit bytes = Uninit
held_value (held.Num z) bytes = Num z
held_value held.Text bytes = Text bytes
held_value held.Maybe bytes = Maybe bytes
