-- A chunk of records over the globals that BEGIN left, and the same records in order over the globals as they are then.
use Rattle.std.specs.Prelude.{◌≡◌, ◌⊎◌, ℕ, ℤ, List, [], ◌∷◌, ◌++◌, Bool, false, Option, None, Result, Ok, Err}
use Rattle.pawk_value.specs.declared.faults.Fault.{Fault}
use Rattle.pawk_value.specs.Arithmetic.{arith}
use Rattle.pawk_value.specs.Conversion.{num_of}
use Rattle.pawk_array.specs.Entries.{found}
use Rattle.pawk_code.specs.declared.word.Sign.{Sign}
use Rattle.pawk_input.specs.Input.{Item}
use Rattle.pawk_world.specs.Sums.{arith_by, op_of}
use Rattle.pawk_world.specs.Worlds.{Cell, Request}
use Rattle.pawk_world.specs.Worlds as request
use Rattle.pawk_store.specs.Globals.{Globals, array_at, value_at, with_cell}
use Rattle.pawk_store.specs.Globals as globals
use Rattle.pawk_store.specs.RecordStates.{RecordState}
use Rattle.pawk_admit.specs.declared.role.Role.TheVariants.{Fixed, Adder}
use Rattle.pawk_admit.specs.Roles.{role_of_array}
use Rattle.pawk_frozen.specs.Marks.{Mark, blank, summed, last_put, created, with_amount, mark_at}
use Rattle.pawk_frozen.specs.Frozens.{Frozen, blank_world, signed_amount, is_sum}
use Rattle.pawk_frozen.specs.Frozens as frozen
use Rattle.pawk_store.specs.Records.{through, fault, clash, End}
use Rattle.pawk_store.specs.Runs.{records_from}
use Rattle.pawk_store.specs.Lockstep.{Pair, IsPrefix}
use Rattle.pawk_store.specs.Laws.{SameEnd}
use Rattle.pawk_store.specs.Allows.{AllowsMain}
use Rattle.pawk_commute.specs.Traces.{Event, Traced, traced, mark_from}
use Rattle.pawk_commute.specs.Traces as event
use Rattle.pawk_commute.specs.Settings.{Setting, Permits, role_of_cell, HasSlots, MayBegin}
use Rattle.pawk_commute.specs.Agreement.{AreLawful, Alike}

-- a trace is a beginning of the other
abbrev pub TraceBefore : Traced → Traced → Type 0
TraceBefore s u = (rest : List Event) × (u.trace ≡ s.trace ++ rest)

-- a table is the other after these events
abbrev pub TableFollows : Setting → Frozen → List Event → Frozen → Type 0
TableFollows i t es u = ((c : Cell) → mark_at c u.table ≡ mark_from (mark_at c t.table) c es) × AreLawful i.roles es

-- the roles and the slots are those of the setting
abbrev pub IsOf : Setting → Frozen → Type 0
IsOf i t = (t.roles ≡ i.roles) × HasSlots t.table.scalars t.table.arrays i.fixed

-- a table is the other after some events
abbrev pub TableBefore : Setting → Frozen → Frozen → Type 0
TableBefore i t u = IsOf i t → IsOf i u × ((rest : List Event) × TableFollows i t rest u)

-- where the two part: at an element that a fixed array lacks, and at a fault of an add
abbrev pub Parts : Setting → Request → Traced → Frozen → Type 0
Parts i (request.read n key) s t =
    (role_of_array i.roles n ≡ Fixed)
    × (found key (array_at s.globals n) ≡ None)
    × (found key (array_at i.fixed n) ≡ None)
Parts i (request.add sign c amount) s t =
    (f : Fault) × (arith_by (op_of sign) (num_of (value_at c s.globals)) amount ≡ Err f)
Parts i _ s t = ⊥

abbrev pub pair_of : Setting → Pair Traced Frozen
pair_of i = record {
  first_calls = traced globals.calls;
  second_calls = frozen.calls;
  alike = Alike i;
  before = TraceBefore;
  before_second = TableBefore i;
  permits = Permits i;
  parts = Parts i;
  ahead = i.written;
}

-- before the first record
abbrev pub store_opening : Setting → RecordState → End Traced
store_opening i state = record {
  world = record { globals = i.start; trace = [] };
  state = state;
  output = i.written;
  left = through;
}

abbrev pub chunk_opening : Setting → RecordState → End Frozen
chunk_opening i state = record { world = blank_world i.fixed i.roles; state = state; output = []; left = through }

-- a fault that is an add's own: of the conversion of what is at its cell, or of the range of the sum
abbrev pub IsOwnFault : Sign → Result ℤ Fault → Result ℤ Fault → Fault → Type 0
IsOwnFault sign (Err g) amount f = f ≡ g
IsOwnFault sign (Ok a) (Ok b) f = arith (op_of sign) a b ≡ Err f
IsOwnFault sign (Ok a) (Err g) f = ⊥

-- the total of a mark may still be a sum
abbrev pub has_sum : Mark → Bool
has_sum blank = false
has_sum (summed total least greatest) = is_sum total
has_sum (last_put v) = false
has_sum created = false

-- the first event is the creation of an element that is not among the fixed globals: the chunk ends in a clash there
pub record MissedKey (i : Setting) (store : End Traced) (chunk : End Frozen) : Type 0 where
  pub array : ℕ
  pub key : List ℕ
  pub first : Traced
  pub second : Frozen
  pub state : RecordState
  pub output : List ℕ
  pub alike : Alike i first second
  pub role : role_of_array i.roles array ≡ Fixed
  pub lacks : found key (array_at first.globals array) ≡ None
  pub chunk_ends : chunk ≡ record { world = second; state = state; output = output; left = clash }
  pub store_trace :
      (rest : List Event) × (store.world.trace ≡ (first.trace ++ event.created array key ∷ []) ++ rest)
  pub store_output : IsPrefix (i.written ++ output) store.output

-- an amount that does not convert: both end in its fault there, and the store has created the element of the target
pub record AmountFaulted (i : Setting) (store : End Traced) (chunk : End Frozen) : Type 0 where
  pub target : Cell
  pub why : Fault
  pub first : Traced
  pub second : Frozen
  pub state : RecordState
  pub output : List ℕ
  pub alike : Alike i first second
  pub role : role_of_cell i.roles target ≡ Adder
  pub chunk_ends : chunk ≡ record { world = second; state = state; output = output; left = fault why }
  pub store_ends :
      store
      ≡ record {
        world = record { globals = with_cell target first.globals; trace = first.trace };
        state = state;
        output = i.written ++ output;
        left = fault why;
      }

-- the chunk ended in a fault at this add: in that of the amount, or as the total can be no sum
abbrev pub FaultsToo :
    Setting → Cell → Sign → Result ℤ Fault → Frozen → RecordState → List ℕ → End Frozen → Type 0
FaultsToo i target sign amount t state out chunk =
    (g : Fault)
    × (chunk ≡ record { world = t; state = state; output = out; left = fault g })
    × ((amount ≡ Err g)
    ⊎ ((y : ℤ) × (amount ≡ Ok y) × (has_sum (with_amount (signed_amount sign y) (mark_at target t.table)) ≡ false)))

-- the chunk goes on: its table is that of this add and of what follows
abbrev pub GoesPast :
    Setting → Cell → Sign → Result ℤ Fault → Frozen → RecordState → List ℕ → End Frozen → Type 0
GoesPast i target sign amount t state out chunk =
    (y : ℤ)
    × (amount ≡ Ok y)
    × ((rest : List Event) × TableFollows i t (event.added target (signed_amount sign y) ∷ rest) chunk.world)
    × IsPrefix out chunk.output

-- the first event is an add's own fault: the store ends in it there
pub record AddFaulted (i : Setting) (store : End Traced) (chunk : End Frozen) : Type 0 where
  pub target : Cell
  pub sign : Sign
  pub amount : Result ℤ Fault
  pub why : Fault
  pub first : Traced
  pub second : Frozen
  pub state : RecordState
  pub output : List ℕ
  pub alike : Alike i first second
  pub role : role_of_cell i.roles target ≡ Adder
  pub own : IsOwnFault sign (num_of (value_at target first.globals)) amount why
  pub store_ends :
      store
      ≡ record {
        world = record { globals = with_cell target first.globals; trace = first.trace };
        state = state;
        output = i.written ++ output;
        left = fault why;
      }
  pub chunk_then :
      FaultsToo i target sign amount second state output chunk
      ⊎ GoesPast i target sign amount second state output chunk

-- how a chunk ends beside the same records in order: without an event, and then not in a clash; or at the first event
pub data Commuted (i : Setting) (store : End Traced) (chunk : End Frozen) : Type 0 where
  no_event : SameEnd (pair_of i) store chunk → (chunk.left ≡ clash → ⊥) → Commuted i store chunk
  amount_fault : AmountFaulted i store chunk → Commuted i store chunk
  missed_key : MissedKey i store chunk → Commuted i store chunk
  add_fault : AddFaulted i store chunk → Commuted i store chunk

-- a chunk commutes with what was before it
abbrev pub Commutation : Type 0
Commutation =
    (i : Setting) → MayBegin i →
    AllowsMain (Permits i) i.code.functions i.code.rules →
    (eres : List (List ℕ)) (budget : ℕ) (skip : Option ℕ) (items : List Item) (state : RecordState) →
    Commuted i
    (records_from (traced globals.calls) eres i.code budget skip (store_opening i state) items)
    (records_from frozen.calls eres i.code budget skip (chunk_opening i state) items)

-- where there was no event, the next chunk may begin with the store as it is
abbrev pub StartsAgain : Type 0
StartsAgain =
    (i : Setting) (s : Traced) (t : Frozen) → MayBegin i → Alike i s t → MayBegin (record i { start = s.globals })
