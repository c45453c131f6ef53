-- Where a place is, and how it is read and changed.
use Rattle.std.specs.Prelude.{ℕ, zero, suc, ℤ, pos, negsuc, List, [], Bool, false, Result, Ok, Err, slice_set, slice_index_or, is_some}
use Rattle.pawk_value.specs.declared.faults.Fault.{Fault}
use Rattle.pawk_value.specs.declared.faults.Fault.TheVariants as fault
use Rattle.pawk_value.specs.Value.{Val, Uninit, Num}
use Rattle.pawk_value.specs.Conversion.{text_of}
use Rattle.pawk_value.specs.declared.arithmetic.Op.{Op}
use Rattle.pawk_world.specs.Sums.{arith_by, op_of}
use Rattle.pawk_array.specs.Entries.{Entries, found, put, touched, without, keys, value_of}
use Rattle.pawk_record.specs.Records.{Record, field_at, with_field, with_text}
use Rattle.pawk_world.specs.Worlds.{Calls, Cell}
use Rattle.pawk_world.specs.Worlds as world
use Rattle.pawk_store.specs.RecordStates.{is_paragraph}
use Rattle.pawk_store.specs.Slots.{fs_slot, ofs_slot}
use Rattle.pawk_code.specs.declared.name.Array.{Array}
use Rattle.pawk_code.specs.declared.name.Array.TheVariants as array
use Rattle.pawk_code.specs.declared.name.Variable.{Variable}
use Rattle.pawk_code.specs.declared.name.Variable.TheVariants as variable
use Rattle.pawk_code.specs.declared.word.Sign.{Sign}
use Rattle.pawk_store.specs.Parts.{Hold, value, global_array, local_array, Moment, Part, gives, give, settle, ask, then_do, bind, as_number, hold_at, local_at}

-- where a place is, once its subscripts or its index are evaluated
pub data Aim : Type 0 where
  parameter : ℕ → Aim
  cell : Cell → Aim
  local_element : ℕ → List ℕ → Aim
  field : ℕ → Aim
  nowhere : Aim

-- the array that a name stands for; a parameter that holds a value stands for none
abbrev pub as_array : Hold → Hold
as_array (value v) = value Uninit
as_array (global_array n) = global_array n
as_array (local_array n) = local_array n

abbrev pub array_at : List Hold → Array → Hold
array_at frame (array.Global n) = global_array n
array_at frame (array.Local i) = as_array (hold_at frame i)

abbrev pub element_of : Hold → List ℕ → Aim
element_of (value v) key = nowhere
element_of (global_array n) key = cell (world.element n key)
element_of (local_array n) key = local_element n key

abbrev pub variable_aim : Variable → Aim
variable_aim (variable.Global n) = cell (world.scalar n)
variable_aim (variable.Local i) = parameter i

-- the index of a field
abbrev pub index_in : ℤ → Result ℕ Fault
index_in (pos n) = Ok n
index_in (negsuc n) = Err fault.Field

abbrev pub index_by : Result ℤ Fault → Result ℕ Fault
index_by (Ok z) = index_in z
index_by (Err f) = Err f

abbrev pub table_at : List Entries → ℕ → Entries
table_at tables n = slice_index_or tables n []

-- an element that is read is created
abbrev pub read_in : List ℕ → Entries → Val × Entries
read_in key es = (value_of (found key es), touched key es)

module _ {S : Type 0} where
  -- what one local array answers, and what it is then
  abbrev pub local_call : {X : Type 0} → ℕ → X × Entries → Part S X
  local_call n e m = gives e.0 (record m { arrays = slice_set m.arrays n e.1 })

  -- the record with a field or its text assigned, or a fault
  abbrev pub with_record : Result Record Fault → Part S (Unit {0})
  with_record (Ok r) m = gives tt (record m { state = record m.state { line = r } })
  with_record (Err f) m = settle (Err f) m

module _ {S : Type 0} (calls : Calls S) where
  -- the text of a global scalar
  abbrev pub text_at : ℕ → Moment S → List ℕ
  text_at slot m = text_of (calls.look slot m.world)

  abbrev pub field_value : ℕ → Val → Part S (Unit {0})
  field_value zero v m = with_record (with_text (text_at fs_slot m) (is_paragraph m.state) (text_of v)) m
  field_value (suc n) v m = with_record (with_field (suc n) v (text_at ofs_slot m) m.state.line) m

  -- a reference, which creates an element
  abbrev pub read_at : Aim → Part S Val
  read_at (parameter i) m = give (local_at m.frame i) m
  read_at (cell (world.scalar n)) m = give (calls.look n m.world) m
  read_at (cell (world.element n key)) m = ask (calls.ask (world.read n key) m.world) m
  read_at (local_element n key) m = local_call n (read_in key (table_at m.arrays n)) m
  read_at (field n) m = give (field_at m.state.line n) m
  read_at nowhere m = give Uninit m

  -- the old value of what is assigned, which creates an element too
  abbrev pub old_at : Aim → Part S Val
  old_at (cell (world.element n key)) m = ask (calls.ask (world.old n key) m.world) m
  old_at aim m = read_at aim m

  abbrev pub write_at : Aim → Val → Part S (Unit {0})
  write_at (parameter i) v m = give tt (record m { frame = slice_set m.frame i (value v) })
  write_at (cell c) v m = ask (calls.ask (world.write c v) m.world) m
  write_at (local_element n key) v m = local_call n (tt, put key v (table_at m.arrays n)) m
  write_at (field n) v m = field_value n v m
  write_at nowhere v m = give tt m

  -- a change whose value is used: the old value, and the new one; the old value is converted first
  abbrev pub change_at : Op → Aim → Result ℤ Fault → Part S (ℤ × ℤ)
  change_at op aim y =
      bind (as_number (old_at aim)) (λ x.
      bind (settle x) (λ old.
      bind (settle (arith_by op x y)) (λ z.
      bind (write_at aim (Num z)) (λ _. give (old, z)))))

  -- a change by a sum whose value is dropped
  abbrev pub add_at : Sign → Aim → Result ℤ Fault → Part S (Unit {0})
  add_at sign (cell c) y m = ask (calls.ask (world.add sign c y) m.world) m
  add_at sign aim y m = then_do (change_at (op_of sign) aim y m) (λ _. give tt)

  abbrev pub holds_in : Hold → List ℕ → Part S Bool
  holds_in (value v) key m = give false m
  holds_in (global_array n) key m = ask (calls.ask (world.test n key) m.world) m
  holds_in (local_array n) key m = give (is_some (found key (table_at m.arrays n))) m

  abbrev pub remove_in : Hold → List ℕ → Part S (Unit {0})
  remove_in (value v) key m = give tt m
  remove_in (global_array n) key m = ask (calls.ask (world.remove n key) m.world) m
  remove_in (local_array n) key m = local_call n (tt, without key (table_at m.arrays n)) m

  abbrev pub clear_of : Hold → Part S (Unit {0})
  clear_of (value v) m = give tt m
  clear_of (global_array n) m = ask (calls.ask (world.clear n) m.world) m
  clear_of (local_array n) m = local_call n (tt, []) m

  abbrev pub keys_of : Hold → Part S (List (List ℕ))
  keys_of (value v) m = give [] m
  keys_of (global_array n) m = ask (calls.ask (world.keys n) m.world) m
  keys_of (local_array n) m = give (keys (table_at m.arrays n)) m
