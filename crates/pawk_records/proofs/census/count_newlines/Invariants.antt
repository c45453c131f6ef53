use Rattle.std.proofs.Common.{◌≡◌, ◌+◌, drop}
use Rattle.pawk_records.specs.Census.{IsCensus}
use Rattle.pawk_records.proofs.CensusLemmas.{newlines}
use Rattle.pawk_records.proofs.census.count_newlines.Given as goal

abbrev pub invariant-loop-segment : goal.invariant-loop-segment
invariant-loop-segment l = record {
  census : IsCensus (drop l.segment-index l.counts) l.rest;
  same : l.count + newlines l.rest ≡ newlines l.text;
}
