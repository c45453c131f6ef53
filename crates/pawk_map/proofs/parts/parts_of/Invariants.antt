use Rattle.std.proofs.Common.{◌≡◌, ℕ}
use Rattle.pawk_map.specs.Parted.{AreTablesOf, parts_from}
use Rattle.pawk_map.specs.Sections.{SaySections}
use Rattle.pawk_map.proofs.SayLemmas.{nr_after}
use Rattle.pawk_map.proofs.parts.parts_of.Given as goal

abbrev pub invariant-loop-chunk : goal.invariant-loop-chunk
invariant-loop-chunk l = record {
  before : l.before ≡ nr_after l.nr l.yielded;
  say : (scalars arrays : ℕ) → AreTablesOf scalars arrays l.yielded → SaySections scalars arrays (parts_from l.nr l.yielded) l.lines.items;
}
