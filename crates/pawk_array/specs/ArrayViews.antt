-- Arrays of the code.
use Rattle.std.specs.Prelude.{List}
use Rattle.pawk_value.specs.Value.{shown}
use Rattle.pawk_value.specs.declared.values.Value.{Value}
use Rattle.pawk_keyed_map.specs.declared.key.Key.{Key}
use Rattle.pawk_keyed_map.specs.Pairs.{seen_by}
use Rattle.pawk_array.specs.Entries.{Entries}

-- pairs of a map, as what an array holds
abbrev pub entries_of : List (Key × Value) → Entries
entries_of es = seen_by shown es
