-- The globals as BEGIN left them, which a chunk does not change, and the table of what it notes.
use Rattle.std.specs.Prelude.{ℕ, ℤ, pos, ◌-ℤ◌, ◌^◌, ◌&&◌, Bool, if◌then◌else◌, List, length, Option, Some, None, Result, Ok, Err, is_some, int_le}
use Rattle.pawk_value.specs.declared.faults.Fault.{Fault}
use Rattle.pawk_value.specs.declared.faults.Fault.TheVariants as fault
use Rattle.pawk_value.specs.Value.{Val, Uninit}
use Rattle.pawk_array.specs.Entries.{found, keys}
use Rattle.pawk_code.specs.declared.word.Sign.{Sign}
use Rattle.pawk_code.specs.declared.word.Sign.TheVariants.{Plus, Minus}
use Rattle.pawk_world.specs.Halts as halt
use Rattle.pawk_world.specs.Worlds.{Cell, scalar, element, Request, Reply, Answer, gives, halts, Calls}
use Rattle.pawk_world.specs.Worlds as request
use Rattle.pawk_store.specs.Globals.{Globals, array_at, value_at}
use Rattle.pawk_admit.specs.declared.role.Role.{Role}
use Rattle.pawk_admit.specs.declared.role.Role.TheVariants.{Fixed, Adder, Setter, Reader}
use Rattle.pawk_admit.specs.Roles.{Roles, role_of_array}
use Rattle.pawk_frozen.specs.Marks.{Mark, created, summed, blank, last_put, Table, blank_table, mark_at, with_mark, with_amount}

pub record Frozen : Type 0 where
  pub fixed : Globals
  pub roles : Roles
  pub table : Table

-- the globals that BEGIN left, of which nothing is noted
abbrev pub blank_world : Globals → Roles → Frozen
blank_world fixed roles =
    record { fixed = fixed; roles = roles; table = blank_table (length fixed.scalars) (length fixed.arrays) }

abbrev pub noted : Cell → Mark → Frozen → Frozen
noted c mark s = record s { table = with_mark c mark s.table }

-- the amount that is added by a sign
abbrev pub signed_amount : Sign → ℤ → ℤ
signed_amount Plus y = y
signed_amount Minus y = pos 0 -ℤ y

-- the greatest size of a sum of a chunk's amounts; after a greater one no value of the cell leaves a number
abbrev pub greatest_sum : ℤ
greatest_sum = pos (2 ^ 64)

abbrev pub is_sum : ℤ → Bool
is_sum z = int_le (pos 0 -ℤ greatest_sum) z && int_le z greatest_sum

-- a mark is kept where its sum may still be one
abbrev pub kept_mark : Cell → Mark → Frozen → Answer Frozen (Unit {0})
kept_mark c (summed total least greatest) s =
    if is_sum total then gives tt (noted c (summed total least greatest) s) else halts (halt.fault fault.Overflow) s
kept_mark c blank s = gives tt s
kept_mark c (last_put v) s = gives tt s
kept_mark c created s = gives tt s

-- the fault of the amount's conversion is reported; the cell's own is not known yet
abbrev pub with_sum : Cell → Sign → Result ℤ Fault → Frozen → Answer Frozen (Unit {0})
with_sum c sign (Err f) s = halts (halt.fault f) s
with_sum c sign (Ok y) s = kept_mark c (with_amount (signed_amount sign y) (mark_at c s.table)) s

-- an element that is not there: a reader array notes that it is created, another array does not allow it
abbrev pub missing : ℕ → List ℕ → Role → Frozen → Answer Frozen Val
missing n key Reader s = gives Uninit (noted (element n key) created s)
missing n key Fixed s = halts halt.clash s
missing n key Adder s = halts halt.clash s
missing n key Setter s = halts halt.clash s

abbrev pub found_or_missing : ℕ → List ℕ → Option Val → Frozen → Answer Frozen Val
found_or_missing n key (Some v) s = gives v s
found_or_missing n key None s = missing n key (role_of_array s.roles n) s

-- the answer to each request; what only programs of one thread ask is not allowed
abbrev pub answer : (q : Request) → Frozen → Answer Frozen (Reply q)
answer (request.read n key) s = found_or_missing n key (found key (array_at s.fixed n)) s
answer (request.old n key) s = halts halt.clash s
answer (request.write c v) s = gives tt (noted c (last_put v) s)
answer (request.add sign c amount) s = with_sum c sign amount s
answer (request.test n key) s = gives (is_some (found key (array_at s.fixed n))) s
answer (request.remove n key) s = halts halt.clash s
answer (request.clear n) s = halts halt.clash s
answer (request.keys n) s = gives (keys (array_at s.fixed n)) s

abbrev pub calls : Calls Frozen
calls = record { look = λ n s. value_at (scalar n) s.fixed; ask = answer }
