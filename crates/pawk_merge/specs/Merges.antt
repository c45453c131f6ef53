-- What chunks leave, merged in their order.
use Rattle.std.specs.Prelude.{ℕ, ◌++◌, List, [], ◌∷◌, Result, Ok, Err, if◌then◌else◌}
use Rattle.pawk_store.specs.Globals.{Globals}
use Rattle.pawk_store.specs.RecordStates.{RecordState}
use Rattle.pawk_store.specs.Records.{Left, through, next_file, exit, fault, clash, End}
use Rattle.pawk_frozen.specs.Marks.{Table}
use Rattle.pawk_merge.specs.Tables.{all_take, join_table}

-- what a chunk leaves
pub record Chunk : Type 0 where
  pub table : Table
  pub state : RecordState
  pub output : List ℕ
  pub left : Left

-- why chunks are not merged: a cell does not take what a chunk noted of it; a chunk ended in a fault; it did what its world
-- does not allow, or left the rest of a file unread, of which later chunks do not know
pub data Stop : Type 0 where
  at_cell : Stop
  at_fault : Stop
  at_clash : Stop

-- what came before, and after it what a chunk leaves: what it noted is joined to the globals, and its output follows
abbrev pub with_chunk : Chunk → End Globals → End Globals
with_chunk c e = record {
  world = join_table c.table e.world;
  state = c.state;
  output = e.output ++ c.output;
  left = c.left;
}

-- nothing is written yet
abbrev pub before_chunks : Globals → RecordState → End Globals
before_chunks globals state = record { world = globals; state = state; output = []; left = through }

-- how a merge goes on after a chunk that was left so: the one that ended in `exit` is the last
abbrev pub after_leaving : Left → (End Globals → Result (End Globals) Stop) → End Globals → Result (End Globals) Stop
after_leaving through go e = go e
after_leaving next_file go e = Err at_clash
after_leaving (exit n) go e = Ok e
after_leaving (fault f) go e = Err at_fault
after_leaving clash go e = Err at_clash

-- chunks merged in their order after what came before, or the stop that is met first
abbrev pub merge : List Chunk → End Globals → Result (End Globals) Stop
merge [] e = Ok e
merge (c ∷ cs) e =
    if all_take c.table e.world then after_leaving c.left (λ x. merge cs x) (with_chunk c e) else Err at_cell
