-- What the state of a run shows.
use Rattle.std.specs.Prelude.{ℕ, ◌<◌, ◌≤◌, ◌^◌, List, length, Option, Some, None, Vec}
use Rattle.std.specs.Option.{option_map}
use Rattle.std.specs.declared.alloc.Global.{Global}
use Rattle.pawk_value.specs.Value.{Val, Uninit, Maybe}
use Rattle.pawk_code.specs.declared.leaf.Special.{Special}
use Rattle.pawk_code.specs.declared.leaf.Special.TheVariants as special
use Rattle.pawk_store.specs.declared.state.RecordState.{RecordState as Code}
use Rattle.pawk_store.specs.RecordStates.{RecordState}

-- FILENAME: none before the first record
abbrev pub name_value : Option (List ℕ) → Val
name_value None = Uninit
name_value (Some name) = Maybe name

abbrev pub state_of : Code → RecordState
state_of s = record {
  line = s.line.record_now;
  nr = s.nr;
  fnr = s.fnr;
  name = name_value (option_map (λ name. name.now) s.name);
  rstart = s.rstart;
  rlength = s.rlength;
  status = s.status;
  taken = option_map (λ (rs : Vec ℕ Global). rs.items) s.taken;
  ranges = s.ranges.items;
}

-- a variable that the run sets may be lent: a count is a number of the language, and for NF all fields were looked for
abbrev pub IsLendable : Special → Code → Type 0
IsLendable special.Nr s = s.nr < 2 ^ 63
IsLendable special.Nf s = (length s.line.record_now.fields ≤ s.line.found) × (length s.line.record_now.fields < 2 ^ 63)
IsLendable special.Fnr s = s.fnr < 2 ^ 63
IsLendable special.Filename s = Unit {0}
IsLendable special.Rstart s = Unit {0}
IsLendable special.Rlength s = Unit {0}
