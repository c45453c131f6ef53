-- What the parts of a run have in common: a moment, and how one part follows another.
use Rattle.std.specs.Prelude.{ℕ, ℤ, zero, suc, List, [], ◌∷◌, ◌++◌, Bool, Option, Some, None, Result, Ok, Err}
use Rattle.std.specs.Prelude.{slice_get, length, drop}
use Rattle.pawk_value.specs.declared.faults.Fault.{Fault}
use Rattle.pawk_value.specs.declared.faults.Fault.TheVariants as fault
use Rattle.pawk_value.specs.Value.{Val, Uninit}
use Rattle.pawk_value.specs.Conversion.{num_of, text_of, truth_of}
use Rattle.pawk_array.specs.Entries.{Entries}
use Rattle.pawk_world.specs.Halts.{Halt}
use Rattle.pawk_world.specs.Halts as halt
use Rattle.pawk_world.specs.Worlds.{Answer}
use Rattle.pawk_world.specs.Worlds as world
use Rattle.pawk_store.specs.RecordStates.{RecordState}
use Rattle.pawk_code.specs.declared.program.ParameterKind.{ParameterKind}
use Rattle.pawk_code.specs.declared.program.ParameterKind.TheVariants as kind

-- what a parameter holds: a value, or an array by reference, a global one by its slot or a local one by its
-- number among all local arrays that are open
pub data Hold : Type 0 where
  value : Val → Hold
  global_array : ℕ → Hold
  local_array : ℕ → Hold

-- a moment of a run: the world, the record state, the parameters of the function that runs, the open local
-- arrays, the output, and the steps that are left
pub record Moment (S : Type 0) : Type 0 where
  pub world : S
  pub state : RecordState
  pub frame : List Hold
  pub arrays : List Entries
  pub output : List ℕ
  pub left : ℕ

-- how a part of a run ends: with a result and the moment, or with a halt, the world, the record state and the output
pub data Outcome (S X : Type 0) : Type 0 where
  gives : X → Moment S → Outcome S X
  halts : Halt → S → RecordState → List ℕ → Outcome S X

-- a part of a run
abbrev pub Part : Type 0 → Type 0 → Type 0
Part S X = Moment S → Outcome S X

module _ {S X : Type 0} where
  abbrev pub give : X → Part S X
  give x m = gives x m

  abbrev pub halt_with : Halt → Part S X
  halt_with h m = halts h m.world m.state m.output

  -- a result, or a fault
  abbrev pub settle : Result X Fault → Part S X
  settle (Ok x) m = gives x m
  settle (Err f) m = halts (halt.fault f) m.world m.state m.output

  -- a call of the world
  abbrev pub ask : Answer S X → Part S X
  ask (world.gives x s) m = gives x (record m { world = s })
  ask (world.halts h s) m = halts h s m.state m.output

-- goes on from where a part gave a result
abbrev pub then_do : {S X Y : Type 0} → Outcome S X → (X → Part S Y) → Outcome S Y
then_do (gives x m) go = go x m
then_do (halts h s state out) go = halts h s state out

abbrev pub bind : {S X Y : Type 0} → Part S X → (X → Part S Y) → Part S Y
bind part go m = then_do (part m) go

module _ {S : Type 0} where
  -- the number of a part's value, its truth, and its text after what is there; a fault of the conversion is a result
  -- yet
  abbrev pub as_number : Part S Val → Part S (Result ℤ Fault)
  as_number part = bind part (λ v. give (num_of v))

  abbrev pub as_truth : Part S Val → Part S (Result Bool Fault)
  as_truth part = bind part (λ v. give (truth_of v))

  abbrev pub as_text : List ℕ → Part S Val → Part S (List ℕ)
  as_text before part = bind part (λ v. give (before ++ text_of v))

  abbrev pub tick_at : ℕ → Part S (Unit {0})
  tick_at zero m = halts (halt.fault fault.Steps) m.world m.state m.output
  tick_at (suc n) m = gives tt (record m { left = n })

  -- one step of the budget
  abbrev pub tick : Part S (Unit {0})
  tick m = tick_at m.left m

-- a parameter; one that is not there holds nothing
abbrev pub hold_or_none : Option Hold → Hold
hold_or_none None = value Uninit
hold_or_none (Some h) = h

abbrev pub hold_at : List Hold → ℕ → Hold
hold_at frame i = hold_or_none (slice_get frame i)

abbrev pub value_in : Hold → Val
value_in (value v) = v
value_in (global_array n) = Uninit
value_in (local_array n) = Uninit

abbrev pub local_at : List Hold → ℕ → Val
local_at frame i = value_in (hold_at frame i)

-- the parameters of a call and the open local arrays
pub record Entry : Type 0 where
  pub frame : List Hold
  pub arrays : List Entries

-- fresh locals for the parameters that got no argument: a scalar without a value, an empty array
abbrev pub with_locals : List ParameterKind → Entry → Entry
with_locals [] e = e
with_locals (kind.Scalar ∷ ks) e = with_locals ks (record { frame = e.frame ++ value Uninit ∷ []; arrays = e.arrays })
with_locals (kind.Array ∷ ks) e =
    with_locals ks (record { frame = e.frame ++ local_array (length e.arrays) ∷ []; arrays = e.arrays ++ [] ∷ [] })

abbrev pub entry_of : List ParameterKind → List Hold → List Entries → Entry
entry_of kinds arguments arrays = with_locals (drop (length arguments) kinds) (record { frame = arguments; arrays = arrays })
