-- The globals of a run, by their slots, and what they answer.
use Rattle.std.specs.Prelude.{ℕ, ℤ, List, [], Result, Ok, Err, slice_set, slice_index_or, is_some}
use Rattle.pawk_value.specs.declared.faults.Fault.{Fault}
use Rattle.pawk_value.specs.Value.{Val, Uninit, Num}
use Rattle.pawk_value.specs.Conversion.{num_of}
use Rattle.pawk_array.specs.Entries.{Entries, found, put, without, keys, value_of, touched}
use Rattle.pawk_world.specs.Halts as halt
use Rattle.pawk_world.specs.Sums.{arith_by, op_of}
use Rattle.pawk_world.specs.Worlds.{Cell, scalar, element, Request, Reply, Answer, gives, halts, Calls}
use Rattle.pawk_world.specs.Worlds as request

-- the values of scalars, and what arrays hold
pub record Globals : Type 0 where
  pub scalars : List Val
  pub arrays : List Entries

abbrev pub array_at : Globals → ℕ → Entries
array_at g n = slice_index_or g.arrays n []

abbrev pub with_array : ℕ → Entries → Globals → Globals
with_array n es g = record g { arrays = slice_set g.arrays n es }

-- what a cell has
abbrev pub value_at : Cell → Globals → Val
value_at (scalar n) g = slice_index_or g.scalars n Uninit
value_at (element n key) g = value_of (found key (array_at g n))

abbrev pub with_value : Cell → Val → Globals → Globals
with_value (scalar n) v g = record g { scalars = slice_set g.scalars n v }
with_value (element n key) v g = with_array n (put key v (array_at g n)) g

-- with an element that was looked for
abbrev pub with_cell : Cell → Globals → Globals
with_cell (scalar n) g = g
with_cell (element n key) g = with_array n (touched key (array_at g n)) g

-- a cell gets a sum; where it is a fault the cell is there
abbrev pub with_sum : Cell → Result ℤ Fault → Globals → Answer Globals (Unit {0})
with_sum c (Ok z) g = gives tt (with_value c (Num z) g)
with_sum c (Err f) g = halts (halt.fault f) (with_cell c g)

-- the answer to each request: all is allowed
abbrev pub answer : (q : Request) → Globals → Answer Globals (Reply q)
answer (request.read n key) g = gives (value_at (element n key) g) (with_cell (element n key) g)
answer (request.old n key) g = gives (value_at (element n key) g) (with_cell (element n key) g)
answer (request.write c v) g = gives tt (with_value c v g)
answer (request.add sign c amount) g = with_sum c (arith_by (op_of sign) (num_of (value_at c g)) amount) g
answer (request.test n key) g = gives (is_some (found key (array_at g n))) g
answer (request.remove n key) g = gives tt (with_array n (without key (array_at g n)) g)
answer (request.clear n) g = gives tt (with_array n [] g)
answer (request.keys n) g = gives (keys (array_at g n)) g

abbrev pub calls : Calls Globals
calls = record { look = λ n g. value_at (scalar n) g; ask = answer }
