-- What a state shows that is kept while its input's buffer is used again.
use Rattle.std.specs.Prelude.{ℕ, Vec}
use Rattle.std.specs.Option.{option_map}
use Rattle.std.specs.declared.alloc.Global.{Global}
use Rattle.pawk_store.specs.RecordStates.{RecordState}
use Rattle.pawk_store.specs.StateViews.{name_value}
use Rattle.pawk_store.specs.declared.kept.KeptState.TheInside.{Inside}

abbrev pub kept_state : Inside → RecordState
kept_state k = record {
  line = k.line.record_now;
  nr = k.nr;
  fnr = k.fnr;
  name = name_value (option_map (λ (name : Vec ℕ Global). name.items) k.name);
  rstart = k.rstart;
  rlength = k.rlength;
  status = k.status;
  taken = option_map (λ (rs : Vec ℕ Global). rs.items) k.taken;
  ranges = k.ranges.items;
}
