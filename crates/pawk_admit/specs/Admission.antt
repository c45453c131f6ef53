-- Which programs may run in chunks, and why not: what the records do with each global must be the same whichever chunk comes
-- first, but for assignments, of which the last counts.
use Rattle.std.specs.Prelude.{◌≡◌, ℕ, ◌<◌, ◌⊎◌}
use Rattle.pawk_code.specs.FirstSlots.{fs_slot, ofs_slot, ors_slot, subsep_slot}
use Rattle.pawk_code.specs.Programs.{Code}
use Rattle.pawk_admit.specs.declared.occurrence.Touch.{Touch}
use Rattle.pawk_admit.specs.declared.occurrence.Touch.TheVariants.{Look, Set, Assign, Add, AddAndLook, Test, Walk, Split, Pass, Delete}
use Rattle.pawk_admit.specs.declared.occurrence.GlobalName.{GlobalName}
use Rattle.pawk_admit.specs.declared.occurrence.GlobalName.TheVariants.{Scalar, Array}
use Rattle.pawk_admit.specs.declared.occurrence.Occurrence.{Occurrence}
use Rattle.pawk_admit.specs.declared.occurrence.Occurrence.TheVariants as occurrence
use Rattle.pawk_admit.specs.declared.reason.Reason.{Reason}
use Rattle.pawk_admit.specs.declared.reason.Reason.TheVariants as reason
use Rattle.pawk_admit.specs.declared.role.Role.{Role}
use Rattle.pawk_admit.specs.declared.role.Role.TheVariants.{Fixed, Adder, Setter, Reader}
use Rattle.pawk_admit.specs.Reaches.{Occurs}
use Rattle.pawk_admit.specs.Roles.{Roles, role_of_scalar, role_of_array}

abbrev pub number : Reason → ℕ
number reason.Assignment = 1
number reason.Addition = 2
number reason.Range = 3
number reason.Match = 4
number reason.Split = 5
number reason.Passing = 6
number reason.Value = 7
number reason.Memory = 8
number reason.NextFile = 9

-- FS, OFS, ORS, SUBSEP: the run itself looks at them while it reads, prints and subscripts
abbrev pub IsSeparator : GlobalName → Type 0
IsSeparator (Scalar n) = (n ≡ fs_slot) ⊎ (n ≡ ofs_slot) ⊎ (n ≡ ors_slot) ⊎ (n ≡ subsep_slot)
IsSeparator (Array n) = ⊥

abbrev pub IsArray : GlobalName → Type 0
IsArray (Scalar n) = ⊥
IsArray (Array n) = Unit {0}

abbrev pub IsAddition : Touch → Type 0
IsAddition Add = Unit {0}
IsAddition AddAndLook = Unit {0}
IsAddition Look = ⊥
IsAddition Set = ⊥
IsAddition Assign = ⊥
IsAddition Test = ⊥
IsAddition Walk = ⊥
IsAddition Split = ⊥
IsAddition Pass = ⊥
IsAddition Delete = ⊥

abbrev pub role_of : Roles → GlobalName → Role
role_of roles (Scalar n) = role_of_scalar roles n
role_of roles (Array n) = role_of_array roles n

-- what is done with a name of a role
abbrev pub Suits : Role → Touch → Type 0
Suits Fixed touch = (touch ≡ Look) ⊎ (touch ≡ Test) ⊎ (touch ≡ Walk)
Suits Adder touch = touch ≡ Add
Suits Setter touch = touch ≡ Set
Suits Reader touch = touch ≡ Look

-- what occurs in the text that the records come to
module _ (Stands : Occurrence → Type 0) where
  -- this is done with the name
  abbrev pub Touches : Touch → GlobalName → Type 0
  Touches touch name = Stands (occurrence.Touch touch name)

  -- this and nothing else is done with the name
  abbrev pub OnlyTouches : Touch → GlobalName → Type 0
  OnlyTouches touch name = Touches touch name × ((other : Touch) → Touches other name → other ≡ touch)

  -- only assigned, by `=` whose value is dropped
  abbrev pub IsSetter : GlobalName → Type 0
  IsSetter name = OnlyTouches Set name × ¬ IsSeparator name

  -- only added to, and the value is dropped
  abbrev pub IsAdder : GlobalName → Type 0
  IsAdder name = OnlyTouches Add name

  -- an array that is only subscripted for its values
  abbrev pub IsReader : GlobalName → Type 0
  IsReader name = IsArray name × OnlyTouches Look name

  abbrev pub IsRole : Role → GlobalName → Type 0
  IsRole Fixed name = ¬ IsAdder name × ¬ IsSetter name × ¬ IsReader name
  IsRole Adder name = IsAdder name
  IsRole Setter name = IsSetter name
  IsRole Reader name = IsReader name

  -- assigned, and no setter
  abbrev pub IsAssigned : GlobalName → Type 0
  IsAssigned name = Touches Assign name ⊎ Touches Delete name ⊎ (Touches Set name × ¬ IsSetter name)

  -- added to, and something else, too
  abbrev pub IsAddedBeside : GlobalName → Type 0
  IsAddedBeside name =
      (Touches Add name ⊎ Touches AddAndLook name)
      × (IsSeparator name ⊎ ((other : Touch) × Touches other name × ¬ IsAddition other))

  -- the reason holds; a refused allocation is no reason of the text
  abbrev pub Holds : Reason → Type 0
  Holds reason.Assignment = (name : GlobalName) × IsAssigned name
  Holds reason.Addition = (name : GlobalName) × IsAddedBeside name
  Holds reason.Range = Stands occurrence.Range
  Holds reason.Match = Stands occurrence.Match
  Holds reason.Split = (name : GlobalName) × Touches Split name
  Holds reason.Passing = (name : GlobalName) × Touches Pass name
  Holds reason.Value = (name : GlobalName) × Touches AddAndLook name
  Holds reason.Memory = ⊥
  Holds reason.NextFile = Stands occurrence.NextFile

  abbrev pub IsFirst : Reason → Type 0
  IsFirst r = Holds r × ((other : Reason) → number other < number r → ¬ Holds other)

  -- a reason that is answered: the first that holds, or out of memory
  abbrev pub IsAnswer : Reason → Type 0
  IsAnswer reason.Memory = Unit {0}
  IsAnswer reason.Assignment = IsFirst reason.Assignment
  IsAnswer reason.Addition = IsFirst reason.Addition
  IsAnswer reason.Range = IsFirst reason.Range
  IsAnswer reason.Match = IsFirst reason.Match
  IsAnswer reason.Split = IsFirst reason.Split
  IsAnswer reason.Passing = IsFirst reason.Passing
  IsAnswer reason.Value = IsFirst reason.Value
  IsAnswer reason.NextFile = IsFirst reason.NextFile

  -- the roles that are answered are those of the names
  abbrev pub AreRoles : Roles → Type 0
  AreRoles roles = (name : GlobalName) → IsRole (role_of roles name) name

-- the program may run in chunks
abbrev pub IsAdmissible : Code → Type 0
IsAdmissible code = (r : Reason) → ¬ Holds (Occurs code) r

-- in a program that may run in chunks, all that the records do with a name suits its role
abbrev pub KeepToRoles : Type 0
KeepToRoles =
    (code : Code) (roles : Roles) → IsAdmissible code → AreRoles (Occurs code) roles →
    (touch : Touch) (name : GlobalName) → Occurs code (occurrence.Touch touch name) → Suits (role_of roles name) touch

-- and a name that separates is never changed
abbrev pub SeparatorsAreFixed : Type 0
SeparatorsAreFixed =
    (code : Code) (roles : Roles) → IsAdmissible code → AreRoles (Occurs code) roles →
    (name : GlobalName) → IsSeparator name → role_of roles name ≡ Fixed
