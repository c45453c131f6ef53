-- The records of a program, in order, after the actions of BEGIN.
use Rattle.std.specs.Prelude.{◌≡◌, ◌⊎◌, ℕ, List, [], Contains, None}
use Rattle.pawk_value.specs.Conversion.{num_of}
use Rattle.pawk_world.specs.Worlds.{Cell}
use Rattle.pawk_code.specs.Programs.{Code}
use Rattle.pawk_input.specs.Input.{Item}
use Rattle.pawk_store.specs.Globals.{Globals, value_at, calls}
use Rattle.pawk_store.specs.RecordStates.{RecordState}
use Rattle.pawk_admit.specs.declared.role.Role.TheVariants.{Adder, Reader}
use Rattle.pawk_admit.specs.Roles.{Roles, role_of_array}
use Rattle.pawk_store.specs.Records.{Left, through, next_file, exit, fault, clash, End}
use Rattle.pawk_store.specs.Runs.{records_from}
use Rattle.pawk_store.specs.Allows.{AllowsMain}
use Rattle.pawk_commute.specs.Traces.{Event, created, Traced, traced}
use Rattle.pawk_commute.specs.Settings.{PermitsFor, role_of_cell, FitSlots, AreInOrder, FitsIfOk}

-- A program and the roles of its globals, the texts of its regular expressions, the steps that each record may take, and
-- what BEGIN left: the globals, the record state with RS taken, and the output.
pub record Phase : Type 0 where
  pub code : Code
  pub roles : Roles
  pub eres : List (List ℕ)
  pub budget : ℕ
  pub globals : Globals
  pub state : RecordState
  pub output : List ℕ

-- The records may be run in chunks: the roles permit what the program asks and are no more than there are slots, the keys of
-- each array rise, and an adder's value, where it has a number, has one of 64 bits.
pub record MayRun (p : Phase) : Type 0 where
  pub allows : AllowsMain (PermitsFor p.code p.roles) p.code.functions p.code.rules
  pub role_slots : FitSlots p.roles.scalars p.roles.arrays p.globals
  pub in_order : AreInOrder p.globals
  pub numbers : (c : Cell) → role_of_cell p.roles c ≡ Adder → FitsIfOk (num_of (value_at c p.globals))

-- ---- the records in order

abbrev pub opening : Phase → End Globals
opening p = record { world = p.globals; state = p.state; output = p.output; left = through }

abbrev pub in_order : Phase → List Item → End Globals
in_order p items = records_from calls p.eres p.code p.budget None (opening p) items

-- the same with a trace
abbrev pub traced_opening : Phase → End Traced
traced_opening p = record {
  world = record { globals = p.globals; trace = [] };
  state = p.state;
  output = p.output;
  left = through;
}

abbrev pub in_order_traced : Phase → List Item → End Traced
in_order_traced p items = records_from (traced calls) p.eres p.code p.budget None (traced_opening p) items

-- ---- why chunks may not be merged

abbrev pub IsFault : Left → Type 0
IsFault through = ⊥
IsFault next_file = ⊥
IsFault (exit n) = ⊥
IsFault (fault f) = Unit {0}
IsFault clash = ⊥

-- a reference creates an element of an array that is no reader array
abbrev pub CreatesElement : Roles → List Event → Type 0
CreatesElement roles trace =
    (array : ℕ) × (key : List ℕ) × (¬ (role_of_array roles array ≡ Reader)) × Contains trace (created array key)

-- the records in order end in a fault, or create an element of an array that is no reader array
abbrev pub FaultsOrCreates : Phase → List Item → Type 0
FaultsOrCreates p items =
    IsFault (in_order p items).left ⊎ CreatesElement p.roles (in_order_traced p items).world.trace
