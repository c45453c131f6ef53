use Rattle.std.proofs.Common.{◌≡◌, ◌*◌, length, drop}
use Rattle.pawk_records.specs.Census.{IsCensus}
use Rattle.pawk_records.specs.declared.census.TheConstants.{SEGMENT}
use Rattle.pawk_records.proofs.census.Census.grow.Given as goal

abbrev pub invariant-loop-rest : goal.invariant-loop-rest
invariant-loop-rest l = record {
  census : IsCensus l.self-inside.counts.items l.text;
  same : l.rest ≡ drop (length l.self-inside.counts.items * SEGMENT) l.text;
}

abbrev pub decreases-loop-rest : goal.decreases-loop-rest
decreases-loop-rest l = length l.rest
