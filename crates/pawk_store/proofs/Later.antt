-- A run over one world goes on: its states in their order, its output as a continuation.
use Rattle.std.proofs.Common.{◌≡◌, ℕ, zero, suc, List, [], ◌∷◌, ◌++◌, Option, Some, None, ap, sym, ◌∙◌, subst, length, append_assoc}
use Rattle.std.proofs.lemmas.List.{append-nil}
use Rattle.std.specs.Prelude.{ℤ, Bool, slice_get, slice_set}
use Rattle.pawk_value.specs.declared.faults.Fault.TheVariants as fault
use Rattle.pawk_value.specs.Value.{Val, Uninit}
use Rattle.pawk_array.specs.Entries.{Entries}
use Rattle.pawk_record.specs.Records.{Record}
use Rattle.pawk_world.specs.Halts.{Halt}
use Rattle.pawk_world.specs.Halts as halt
use Rattle.pawk_world.specs.Worlds.{Answer, Calls}
use Rattle.pawk_world.specs.Worlds as world
use Rattle.pawk_store.specs.RecordStates.{RecordState}
use Rattle.pawk_code.specs.declared.name.Array.{Array}
use Rattle.pawk_code.specs.declared.name.Array.TheVariants as array
use Rattle.pawk_code.specs.declared.program.ParameterKind.{ParameterKind}
use Rattle.pawk_code.specs.declared.program.ParameterKind.TheVariants as kind
use Rattle.pawk_store.specs.Parts.{Hold, value, global_array, local_array, Moment, Outcome, gives, halts, Part, halt_with, ask, then_do, tick_at, hold_or_none, Entry, with_locals}
use Rattle.pawk_store.specs.Places.{as_array, array_at}
use Rattle.pawk_store.specs.Lockstep.{Resource, array_slot, last_match, rule_ranges, Access, writes, IsPrefix, IsHeld, AllHeld, refusal_of, state_of, world_of, output_of, record_state_of, Reaches, RefusesIn, GoesOn, EndsBy}
use Rattle.pawk_store.specs.Allows.{TouchesArray, AllowsWhole}
use Rattle.pawk_store.specs.Steady.{HaltsBy}

pub prefix_here : (a : List ℕ) → IsPrefix a a
prefix_here a = ([], sym (append-nil a))

pub prefix_then : (a b c : List ℕ) → IsPrefix a b → IsPrefix b c → IsPrefix a c
prefix_then a b c h k = (h.0 ++ k.0, k.1 ∙ ap (λ x. x ++ k.0) h.1 ∙ append_assoc a h.0 k.0)

-- of any value
abbrev pub Any : {X : Type 0} → X → Type 0
Any x = Unit {0}

-- the record state, the parameters and the local arrays
pub record Near : Type 0 where
  pub state : RecordState
  pub frame : List Hold
  pub arrays : List Entries

abbrev pub near : {S : Type 0} → Moment S → Near
near m = record { state = m.state; frame = m.frame; arrays = m.arrays }

abbrev pub nearby : {S X : Type 0} → X × Near → Part S X
nearby e m = gives e.0 (record m { state = e.1.state; frame = e.1.frame; arrays = e.1.arrays })

-- An order of record states in which statements go on: they assign the record, and RSTART with RLENGTH and the ranges of
-- the rules where that is permitted.
pub record Order (permits : Access → Resource → Type 0) : Type 1 where
  pub keeps : RecordState → RecordState → Type 0
  pub here : (s : RecordState) → keeps s s
  pub then : (s t u : RecordState) → keeps s t → keeps t u → keeps s u
  pub line : (s : RecordState) (r : Record) → keeps s (record s { line = r })
  pub match : permits writes last_match → (s : RecordState) (start size : ℤ) → keeps s (record s { rstart = start; rlength = size })
  pub ranges : permits writes rule_ranges → (s : RecordState) (inside : List Bool) → keeps s (record s { ranges = inside })

-- of any two record states
abbrev pub any_order : (permits : Access → Resource → Type 0) → Order permits
any_order permits = record {
  keeps = λ s t. Unit {0};
  here = λ s. tt;
  then = λ s t u h k. tt;
  line = λ s r. tt;
  match = λ may s start size. tt;
  ranges = λ may s inside. tt;
}

-- what the parameters hold
module _ (permits : Access → Resource → Type 0) where
  held_at : (hs : List Hold) (i : ℕ) → AllHeld permits hs → IsHeld permits (hold_or_none (slice_get hs i))
  held_at [] i h = tt
  held_at (x ∷ hs) zero h = h.0
  held_at (x ∷ hs) (suc i) h = held_at hs i h.1

  pub held_set : (hs : List Hold) (i : ℕ) (v : Val) → AllHeld permits hs → AllHeld permits (slice_set hs i (value v))
  held_set [] i v h = tt
  held_set (x ∷ hs) zero v h = (tt, h.1)
  held_set (x ∷ hs) (suc i) v h = (h.0, held_set hs i v h.1)

  pub held_more : (hs : List Hold) (x : Hold) → AllHeld permits hs → IsHeld permits x → AllHeld permits (hs ++ x ∷ [])
  held_more [] x h k = (k, tt)
  held_more (y ∷ hs) x h k = (h.0, held_more hs x h.1 k)

  pub held_extended : (ks : List ParameterKind) (e : Entry) → AllHeld permits e.frame → AllHeld permits (with_locals ks e).frame
  held_extended [] e h = h
  held_extended (kind.Scalar ∷ ks) e h = held_extended ks _ (held_more e.frame (value Uninit) h tt)
  held_extended (kind.Array ∷ ks) e h = held_extended ks _ (held_more e.frame (local_array (length e.arrays)) h tt)

  held_as_array : (x : Hold) → IsHeld permits x → IsHeld permits (as_array x)
  held_as_array (value v) h = tt
  held_as_array (global_array n) h = h
  held_as_array (local_array n) h = tt

  pub held_whole : (hs : List Hold) (a : Array) → AllHeld permits hs → AllowsWhole permits a → IsHeld permits (array_at hs a)
  held_whole hs (array.Global n) h may = may
  held_whole hs (array.Local i) h may = held_as_array _ (held_at hs i h)

  -- an array that may be touched so
  abbrev pub Holding : Access → Hold → Type 0
  Holding access (value v) = Unit {0}
  Holding access (global_array n) = permits access (array_slot n)
  Holding access (local_array n) = Unit {0}

  holding_held : (access : Access) (x : Hold) → IsHeld permits x → Holding access x
  holding_held access (value v) h = tt
  holding_held access (global_array n) h = h access
  holding_held access (local_array n) h = tt

  pub holding_array : (access : Access) (hs : List Hold) (a : Array) → AllHeld permits hs → TouchesArray permits access a → Holding access (array_at hs a)
  holding_array access hs (array.Global n) h may = may
  holding_array access hs (array.Local i) h may = holding_held access _ (held_as_array _ (held_at hs i h))

  -- what an outcome gives
  abbrev pub Meets : {S X : Type 0} → (Halt → Type 0) → (X → Type 0) → Outcome S X → Type 0
  Meets ends P (gives x m) = P x × AllHeld permits m.frame
  Meets ends P (halts h s state out) = ends h

  pub halts_by : {S X : Type 0} (P : X → Type 0) (ends : Halt → Type 0) (o : Outcome S X) → Meets ends P o → HaltsBy ends o
  halts_by P ends (gives x m) h = tt
  halts_by P ends (halts i s state out) h = h

  pub meets_weak : {S X : Type 0} (P Q : X → Type 0) (ends : Halt → Type 0) → ((x : X) → P x → Q x) → (o : Outcome S X) → Meets ends P o → Meets ends Q o
  meets_weak P Q ends h (gives x m) k = (h x k.0, k.1)
  meets_weak P Q ends h (halts i s state out) k = k

  -- an outcome goes on from a moment
  pub record Later {S X : Type 0} (ends : Halt → Type 0) (before : S → S → Type 0) (order : Order permits) (P : X → Type 0) (m : Moment S) (o : Outcome S X) : Type 0 where
    pub world : before m.world (world_of o)
    pub output : IsPrefix m.output (output_of o)
    pub state : order.keeps m.state (record_state_of o)
    pub meets : Meets ends P o

  module _ {S : Type 0} (before : S → S → Type 0) (calls : Calls S) (on : GoesOn permits before calls) (order : Order permits) where
    pub later_then : {X Y : Type 0} (P : X → Type 0) (Q : Y → Type 0) (m : Moment S) (o : Outcome S X) (k : X → Part S Y) → Later (EndsBy on) before order P m o → ((x : X) (n : Moment S) → P x → AllHeld permits n.frame → Later (EndsBy on) before order Q n (k x n)) → Later (EndsBy on) before order Q m (then_do o k)
    later_then P Q m (gives x n) k l h =
        let j = h x n l.meets.0 l.meets.1 in
        record {
          world = on.then m.world n.world (world_of (k x n)) l.world j.world;
          output = prefix_then m.output n.output (output_of (k x n)) l.output j.output;
          state = order.then m.state n.state (record_state_of (k x n)) l.state j.state;
          meets = j.meets;
        }
    later_then P Q m (halts i q state o) k l h = record { world = l.world; output = l.output; state = l.state; meets = l.meets }

    goes_further : {X Y : Type 0} (P : X → Type 0) (Q : Y → Type 0) (s : S) (out : List ℕ) (o : Outcome S X) (k : X → Part S Y) → Meets (EndsBy on) P o → ((x : X) (m : Moment S) → P x → AllHeld permits m.frame → Later (EndsBy on) before order Q m (k x m)) → before s (world_of o) × IsPrefix out (output_of o) → before s (world_of (then_do o k)) × IsPrefix out (output_of (then_do o k))
    goes_further P Q s out (gives x m) k meets h e =
        let j = h x m meets.0 meets.1 in
        (on.then s m.world (world_of (k x m)) e.0 j.world, prefix_then out m.output (output_of (k x m)) e.1 j.output)
    goes_further P Q s out (halts i q state o) k meets h e = e

    pub reaches_then : {X Y : Type 0} (P : X → Type 0) (Q : Y → Type 0) (r : Option (Halt × S)) (s : S) (state : RecordState) (out : List ℕ) (o : Outcome S X) (k : X → Part S Y) → Meets (EndsBy on) P o → ((x : X) (m : Moment S) → P x → AllHeld permits m.frame → Later (EndsBy on) before order Q m (k x m)) → Reaches before r s state out o → Reaches before r s state out (then_do o k)
    reaches_then P Q (Some r) s state out o k meets h e = ap (λ x. then_do x k) e
    reaches_then P Q None s state out o k meets h e = goes_further P Q s out o k meets h e

    pub later_nearby : {X : Type 0} (P : X → Type 0) (e : X × Near) (m : Moment S) → P e.0 → AllHeld permits e.1.frame → order.keeps m.state e.1.state → Later (EndsBy on) before order P m (nearby e m)
    later_nearby P e m h k l = record { world = on.here m.world; output = prefix_here m.output; state = l; meets = (h, k) }

    pub later_halt : {X : Type 0} (P : X → Type 0) (h : Halt) → EndsBy on h → (m : Moment S) → Later (EndsBy on) before order P m (halt_with h m)
    later_halt P h end m = record { world = on.here m.world; output = prefix_here m.output; state = order.here m.state; meets = end }

    pub later_tick : (k : ℕ) (m : Moment S) → AllHeld permits m.frame → Later (EndsBy on) before order Any m (tick_at k m)
    later_tick zero m h = later_halt Any (halt.fault fault.Steps) (on.at_fault fault.Steps) m
    later_tick (suc k) m h = record { world = on.here m.world; output = prefix_here m.output; state = order.here m.state; meets = (tt, h) }

    pub later_ask : {X : Type 0} (a : Answer S X) (m : Moment S) → before m.world (state_of a) → RefusesIn (EndsBy on) (refusal_of a) → AllHeld permits m.frame → Later (EndsBy on) before order Any m (ask a m)
    later_ask (world.gives x s) m h r k = record { world = h; output = prefix_here m.output; state = order.here m.state; meets = (tt, k) }
    later_ask (world.halts i s) m h r k = record { world = h; output = prefix_here m.output; state = order.here m.state; meets = r }

    pub reaches_ask : {X : Type 0} (a : Answer S X) (m : Moment S) (state : RecordState) (out : List ℕ) → state ≡ m.state → out ≡ m.output → Reaches before (refusal_of a) (state_of a) state out (ask a m)
    reaches_ask (world.gives x s) m state out e f = (on.here s, subst (λ o. IsPrefix o m.output) (sym f) (prefix_here m.output))
    reaches_ask (world.halts i s) m state out e f = ap (λ l. halts i s l m.output) (sym e) ∙ ap (λ o. halts i s state o) (sym f)
