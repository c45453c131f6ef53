use Rattle.std.proofs.Common.{◌≡◌, map, take}
use Rattle.pawk_keyed_map.specs.Keys.{text_of}
use Rattle.pawk_array.proofs.array.map_keys.Given as goal

abbrev pub invariant-loop-place : goal.invariant-loop-place
invariant-loop-place l = map (λ x. x.text.now) l.all.items ≡ map (λ e. text_of e.0) (take l.place l.pairs.entries)
