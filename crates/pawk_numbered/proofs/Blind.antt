-- Parts of a run that do not look at NR: what all of them rest on, and places.
use Rattle.std.proofs.Common.{◌≡◌, ℕ, ℤ, zero, suc, ◌+◌, List, ◌++◌, refl, ap, ◌∙◌, Bool, true, false, if◌then◌else◌, Result, Ok, Err}
use Rattle.std.specs.Prelude.{◌||◌}
use Rattle.pawk_value.specs.declared.faults.Fault.{Fault}
use Rattle.pawk_value.specs.Value.{Val, Num}
use Rattle.pawk_value.specs.Conversion.{num_of, text_of, truth_of as truth_in}
use Rattle.pawk_value.specs.declared.arithmetic.Op.{Op}
use Rattle.pawk_record.specs.Records.{Record, with_field, with_text}
use Rattle.pawk_world.specs.Halts.{Halt}
use Rattle.pawk_world.specs.Sums.{arith_by, op_of}
use Rattle.pawk_world.specs.Worlds.{Answer, Calls}
use Rattle.pawk_world.specs.Worlds as world
use Rattle.pawk_store.specs.RecordStates.{RecordState, is_paragraph}
use Rattle.pawk_store.specs.Slots.{fs_slot, ofs_slot}
use Rattle.pawk_code.specs.declared.word.Sign.{Sign}
use Rattle.pawk_store.specs.Parts.{Hold, value, global_array, local_array, Moment, Outcome, gives, halts, Part, give, halt_with, settle, ask, then_do, bind, as_number, as_truth, as_text, tick, tick_at}
use Rattle.pawk_store.specs.Places.{Aim, parameter, cell, local_element, nowhere, text_at, with_record, field_value, read_at, old_at, write_at, change_at, add_at, holds_in, remove_in, clear_of, keys_of}
use Rattle.pawk_store.specs.Places as places
use Rattle.pawk_store.specs.Meaning.{decide}

-- a record state, a moment and an outcome with this many records read before
abbrev pub later_state : ℕ → RecordState → RecordState
later_state before s = record s { nr = before + s.nr }

abbrev pub later_moment : {S : Type 0} → ℕ → Moment S → Moment S
later_moment before m = record m { state = later_state before m.state }

abbrev pub later_outcome : {S X : Type 0} → ℕ → Outcome S X → Outcome S X
later_outcome before (gives x m) = gives x (later_moment before m)
later_outcome before (halts h s state o) = halts h s (later_state before state) o

-- a part does not look at how many records were read before it
pub record IsBlind {S X : Type 0} (before : ℕ) (part : Part S X) : Type 0 where
  pub same : (m : Moment S) → part (later_moment before m) ≡ later_outcome before (part m)

-- two or three tests of which none holds
pub neither : (a b : Bool) → (a || b) ≡ false → (a ≡ false) × (b ≡ false)
neither true b h = let bad : true ≡ false = h in absurd cc
neither false b h = (refl, h)

pub none_of_three : (a b c : Bool) → (a || b || c) ≡ false → (a ≡ false) × (b ≡ false) × (c ≡ false)
none_of_three a b c h =
    let front = neither (a || b) c h in
    let parts = neither a b front.0 in
    (parts.0, parts.1, front.1)

module _ {S : Type 0} {before : ℕ} where
  then_blind : {X Y : Type 0} (o : Outcome S X) (k : X → Part S Y) → ((x : X) → IsBlind before (k x)) → then_do (later_outcome before o) k ≡ later_outcome before (then_do o k)
  then_blind (gives x m) k h = (h x).same m
  then_blind (halts i s state o) k h = refl

  pub bind_blind : {X Y : Type 0} {part : Part S X} {k : X → Part S Y} → IsBlind before part → ((x : X) → IsBlind before (k x)) → IsBlind before (bind part k)
  bind_blind {part = part} {k = k} g h = record { same = λ m. ap (λ o. then_do o k) (g.same m) ∙ then_blind (part m) k h }

  pub give_blind : {X : Type 0} (x : X) → IsBlind {S = S} before (give x)
  give_blind x = record { same = λ m. refl }

  pub halt_blind : {X : Type 0} (h : Halt) → IsBlind {S = S} {X = X} before (halt_with h)
  halt_blind h = record { same = λ m. refl }

  pub settle_blind : {X : Type 0} (r : Result X Fault) → IsBlind {S = S} before (settle r)
  settle_blind (Ok x) = record { same = λ m. refl }
  settle_blind (Err f) = record { same = λ m. refl }

  pub answer_blind : {X : Type 0} (a : Answer S X) → IsBlind before (ask a)
  answer_blind (world.gives x s) = record { same = λ m. refl }
  answer_blind (world.halts h s) = record { same = λ m. refl }

  tick_at_blind : (n : ℕ) → IsBlind {S = S} before (tick_at n)
  tick_at_blind zero = record { same = λ m. refl }
  tick_at_blind (suc n) = record { same = λ m. refl }

  pub tick_blind : IsBlind {S = S} before tick
  tick_blind = record { same = λ m. (tick_at_blind m.left).same m }

  pub number_blind : {part : Part S Val} → IsBlind before part → IsBlind before (as_number part)
  number_blind g = bind_blind g (λ v. give_blind (num_of v))

  pub truth_blind : {part : Part S Val} → IsBlind before part → IsBlind before (as_truth part)
  truth_blind g = bind_blind g (λ v. give_blind (truth_in v))

  pub text_blind : (s : List ℕ) {part : Part S Val} → IsBlind before part → IsBlind before (as_text s part)
  text_blind s g = bind_blind g (λ v. give_blind (s ++ text_of v))

  pub dropped_blind : {X : Type 0} {part : Part S X} → IsBlind before part → IsBlind before (bind part (λ _. give (tt {0})))
  dropped_blind g = bind_blind g (λ _. give_blind (tt {0}))

  pub if_blind : {X : Type 0} (b : Bool) {p q : Part S X} → IsBlind before p → IsBlind before q → IsBlind before (if b then p else q)
  if_blind true g h = g
  if_blind false g h = h

  pub decide_blind : {X : Type 0} {p : Part S (Result Bool Fault)} {k : Bool → Part S X} → IsBlind before p → ((b : Bool) → IsBlind before (k b)) → IsBlind before (decide p k)
  decide_blind g h = bind_blind g (λ r. bind_blind (settle_blind r) h)

  record_blind : (r : Result Record Fault) → IsBlind {S = S} before (with_record r)
  record_blind (Ok r) = record { same = λ m. refl }
  record_blind (Err f) = record { same = λ m. refl }

module _ {S : Type 0} {before : ℕ} (calls : Calls S) where
  pub field_value_blind : (n : ℕ) (v : Val) → IsBlind before (field_value calls n v)
  field_value_blind zero v = record { same = λ m. (record_blind (with_text (text_at calls fs_slot m) (is_paragraph m.state) (text_of v))).same m }
  field_value_blind (suc n) v = record { same = λ m. (record_blind (with_field (suc n) v (text_at calls ofs_slot m) m.state.line)).same m }

  pub read_at_blind : (aim : Aim) → IsBlind before (read_at calls aim)
  read_at_blind (parameter i) = record { same = λ m. refl }
  read_at_blind (cell (world.scalar n)) = record { same = λ m. refl }
  read_at_blind (cell (world.element n key)) = record { same = λ m. (answer_blind (calls.ask (world.read n key) m.world)).same m }
  read_at_blind (local_element n key) = record { same = λ m. refl }
  read_at_blind (places.field n) = record { same = λ m. refl }
  read_at_blind nowhere = record { same = λ m. refl }

  old_at_blind : (aim : Aim) → IsBlind before (old_at calls aim)
  old_at_blind (parameter i) = read_at_blind (parameter i)
  old_at_blind (cell (world.scalar n)) = read_at_blind (cell (world.scalar n))
  old_at_blind (cell (world.element n key)) = record { same = λ m. (answer_blind (calls.ask (world.old n key) m.world)).same m }
  old_at_blind (local_element n key) = read_at_blind (local_element n key)
  old_at_blind (places.field n) = read_at_blind (places.field n)
  old_at_blind nowhere = read_at_blind nowhere

  pub write_at_blind : (aim : Aim) (v : Val) → IsBlind before (write_at calls aim v)
  write_at_blind (parameter i) v = record { same = λ m. refl }
  write_at_blind (cell c) v = record { same = λ m. (answer_blind (calls.ask (world.write c v) m.world)).same m }
  write_at_blind (local_element n key) v = record { same = λ m. refl }
  write_at_blind (places.field n) v = field_value_blind n v
  write_at_blind nowhere v = record { same = λ m. refl }

  pub change_at_blind : (op : Op) (aim : Aim) (y : Result ℤ Fault) → IsBlind before (change_at calls op aim y)
  change_at_blind op aim y =
      bind_blind (number_blind (old_at_blind aim)) (λ x. bind_blind (settle_blind x) (λ old. bind_blind (settle_blind (arith_by op x y)) (λ z. bind_blind (write_at_blind aim (Num z)) (λ _. give_blind (old, z)))))

  pub add_at_blind : (sign : Sign) (aim : Aim) (y : Result ℤ Fault) → IsBlind before (add_at calls sign aim y)
  add_at_blind sign (cell c) y = record { same = λ m. (answer_blind (calls.ask (world.add sign c y) m.world)).same m }
  add_at_blind sign (parameter i) y = dropped_blind (change_at_blind (op_of sign) (parameter i) y)
  add_at_blind sign (local_element n key) y = dropped_blind (change_at_blind (op_of sign) (local_element n key) y)
  add_at_blind sign (places.field n) y = dropped_blind (change_at_blind (op_of sign) (places.field n) y)
  add_at_blind sign nowhere y = dropped_blind (change_at_blind (op_of sign) nowhere y)

  pub holds_in_blind : (x : Hold) (key : List ℕ) → IsBlind before (holds_in calls x key)
  holds_in_blind (value v) key = record { same = λ m. refl }
  holds_in_blind (global_array n) key = record { same = λ m. (answer_blind (calls.ask (world.test n key) m.world)).same m }
  holds_in_blind (local_array n) key = record { same = λ m. refl }

  pub remove_in_blind : (x : Hold) (key : List ℕ) → IsBlind before (remove_in calls x key)
  remove_in_blind (value v) key = record { same = λ m. refl }
  remove_in_blind (global_array n) key = record { same = λ m. (answer_blind (calls.ask (world.remove n key) m.world)).same m }
  remove_in_blind (local_array n) key = record { same = λ m. refl }

  pub clear_of_blind : (x : Hold) → IsBlind before (clear_of calls x)
  clear_of_blind (value v) = record { same = λ m. refl }
  clear_of_blind (global_array n) = record { same = λ m. (answer_blind (calls.ask (world.clear n) m.world)).same m }
  clear_of_blind (local_array n) = record { same = λ m. refl }

  pub keys_of_blind : (x : Hold) → IsBlind before (keys_of calls x)
  keys_of_blind (value v) = record { same = λ m. refl }
  keys_of_blind (global_array n) = record { same = λ m. (answer_blind (calls.ask (world.keys n) m.world)).same m }
  keys_of_blind (local_array n) = record { same = λ m. refl }
