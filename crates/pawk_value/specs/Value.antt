-- The values (POSIX.1-2017, awk, "Expressions in awk"), with texts as lists of bytes.
use Rattle.std.specs.Prelude.{ℕ, ℤ, List, []}
use Rattle.pawk_value.specs.declared.values.Value.{Value}
use Rattle.pawk_value.specs.declared.values.Value.TheVariants as value
use Rattle.pawk_value.specs.declared.values.ValueRef.{ValueRef}
use Rattle.pawk_value.specs.declared.values.ValueRef.TheVariants as value_ref

-- a text from outside is Maybe: it is numeric where it looks like a numeral
pub data Val : Type 0 where
  Uninit : Val
  Num : ℤ → Val
  Text : List ℕ → Val
  Maybe : List ℕ → Val

-- what a value of the program shows
abbrev pub shown : Value → Val
shown value.Uninit = Uninit
shown (value.Num z) = Num z
shown (value.Text t) = Text t.items
shown (value.Maybe t) = Maybe t.items

-- what a lent value shows
abbrev pub lent_value : ValueRef → Val
lent_value value_ref.Uninit = Uninit
lent_value (value_ref.Num z) = Num z
lent_value (value_ref.Text t) = Text t.now
lent_value (value_ref.Maybe t) = Maybe t.now

-- the bytes that a value holds
abbrev pub bytes_of : Val → List ℕ
bytes_of Uninit = []
bytes_of (Num z) = []
bytes_of (Text s) = s
bytes_of (Maybe s) = s
