-- Keys of the code.
use Rattle.std.specs.Prelude.{ℕ, List, take}
use Rattle.pawk_keyed_map.specs.declared.key.Key.{Key}
use Rattle.pawk_keyed_map.specs.declared.key.Key.TheVariants as key

abbrev pub text_of : Key → List ℕ
text_of (key.Short n room) = take n room
text_of (key.Long text) = text.items
