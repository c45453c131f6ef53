-- What a chunk of records and the store are run from, and what a program may do that runs in chunks.
use Rattle.std.specs.Prelude.{◌≡◌, ◌≤◌, ℕ, ℤ, ◌⊎◌, List, length, Option, Some, None, Result, Ok, Err}
use Rattle.pawk_value.specs.declared.faults.Fault.{Fault}
use Rattle.pawk_value.specs.Range.{FitsWord}
use Rattle.pawk_value.specs.Value.{Val, Uninit}
use Rattle.pawk_value.specs.Conversion.{num_of}
use Rattle.pawk_array.specs.Entries.{Rise, found}
use Rattle.pawk_world.specs.Worlds.{Cell, scalar, element}
use Rattle.pawk_store.specs.Globals.{Globals, array_at, value_at}
use Rattle.pawk_code.specs.Programs.{Code}
use Rattle.pawk_admit.specs.declared.role.Role.{Role}
use Rattle.pawk_admit.specs.declared.role.Role.TheVariants.{Fixed, Adder, Setter, Reader}
use Rattle.pawk_admit.specs.Roles.{Roles, role_of_scalar, role_of_array}
use Rattle.pawk_admit.specs.Reaches.{Reached}
use Rattle.pawk_store.specs.Lockstep.{Resource, variable_slot, array_slot, function_slot, resource_of_cell, Access, looks, reads, writes, changes, tests, walks, runs}

-- a program and the roles of its globals, the globals as BEGIN left them, from which a chunk is run, and the globals and the
-- output to which the records before the chunk have come, from which its records are run in order
pub record Setting : Type 0 where
  pub code : Code
  pub roles : Roles
  pub fixed : Globals
  pub start : Globals
  pub written : List ℕ

-- what is no global is fixed
abbrev pub role_of : Roles → Resource → Role
role_of roles (variable_slot n) = role_of_scalar roles n
role_of roles (array_slot n) = role_of_array roles n
role_of roles _ = Fixed

abbrev pub role_of_cell : Roles → Cell → Role
role_of_cell roles c = role_of roles (resource_of_cell c)

-- the elements of a fixed array and of a reader array may be read
abbrev pub MayRead : Role → Type 0
MayRead Fixed = Unit {0}
MayRead Adder = ⊥
MayRead Setter = ⊥
MayRead Reader = Unit {0}

-- what a program may do that runs in chunks: look at, test and walk what is fixed, read fixed arrays and reader arrays,
-- put values into setters, add to adders, call what its records reach
abbrev pub PermitsFor : Code → Roles → Access → Resource → Type 0
PermitsFor code roles looks (variable_slot n) = role_of_scalar roles n ≡ Fixed
PermitsFor code roles reads (array_slot n) = MayRead (role_of_array roles n)
PermitsFor code roles writes r = role_of roles r ≡ Setter
PermitsFor code roles (changes sign) r = role_of roles r ≡ Adder
PermitsFor code roles tests (array_slot n) = role_of_array roles n ≡ Fixed
PermitsFor code roles walks (array_slot n) = role_of_array roles n ≡ Fixed
PermitsFor code roles runs (function_slot f) = Reached code f
PermitsFor code roles _ _ = ⊥

abbrev pub Permits : Setting → Access → Resource → Type 0
Permits i = PermitsFor i.code i.roles

-- what is at a cell; an element may be missing
abbrev pub entry_at : Cell → Globals → Option Val
entry_at (scalar n) g = Some (value_at (scalar n) g)
entry_at (element n key) g = found key (array_at g n)

-- an element that is there stays; one that is not may be created, without a value
abbrev pub Extends : Option Val → Option Val → Type 0
Extends (Some v) now = now ≡ Some v
Extends None now = (now ≡ None) ⊎ (now ≡ Some Uninit)

-- how far a cell must be as it is among the fixed globals
abbrev pub Agrees : Role → Option Val → Option Val → Type 0
Agrees Fixed was now = now ≡ was
Agrees Adder was now = Unit {0}
Agrees Setter was now = Unit {0}
Agrees Reader was now = Extends was now

-- as many slots
abbrev pub HasSlots : {X Y : Type 0} → List X → List Y → Globals → Type 0
HasSlots scalars arrays g = (length scalars ≡ length g.scalars) × (length arrays ≡ length g.arrays)

-- no more than there are slots
abbrev pub FitSlots : {X Y : Type 0} → List X → List Y → Globals → Type 0
FitSlots scalars arrays g = (length scalars ≤ length g.scalars) × (length arrays ≤ length g.arrays)

-- the keys of each array rise
abbrev pub AreInOrder : Globals → Type 0
AreInOrder g = (n : ℕ) → Rise (array_at g n)

-- globals that agree with the fixed ones but for the values of adders and setters and for further elements of reader
-- arrays, which have no value
pub record AgreesBut (roles : Roles) (fixed g : Globals) : Type 0 where
  pub slots : HasSlots g.scalars g.arrays fixed
  pub in_order : AreInOrder g
  pub cells : (c : Cell) → Agrees (role_of_cell roles c) (entry_at c fixed) (entry_at c g)

-- a number that is one of 64 bits
abbrev pub FitsIfOk : Result ℤ Fault → Type 0
FitsIfOk (Ok z) = FitsWord z
FitsIfOk (Err f) = Unit {0}

-- what a chunk and the store may begin from
pub record MayBegin (i : Setting) : Type 0 where
  pub role_slots : FitSlots i.roles.scalars i.roles.arrays i.fixed
  pub in_order : AreInOrder i.fixed
  pub agrees : AgreesBut i.roles i.fixed i.start
  pub numbers : (c : Cell) → role_of_cell i.roles c ≡ Adder → FitsIfOk (num_of (value_at c i.start))
