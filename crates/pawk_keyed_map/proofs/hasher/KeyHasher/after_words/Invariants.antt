use Rattle.std.specs.Prelude.{◌≡◌, ◌-◌, ◌/◌, ◌%◌, ◌<◌}
use Rattle.pawk_keyed_map.specs.Hashing.{after_first}
use Rattle.pawk_keyed_map.proofs.hasher.KeyHasher.after_words.Given as goal

abbrev pub invariant-loop-at : goal.invariant-loop-at
invariant-loop-at l = (l.at % 8 ≡ 0) × (l.at < l.length) × (l.state ≡ after_first l.self.factor l.self.state l.bytes (l.at / 8))

abbrev pub decreases-loop-at : goal.decreases-loop-at
decreases-loop-at l = l.length - l.at
