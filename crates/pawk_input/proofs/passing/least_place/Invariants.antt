use Rattle.std.proofs.Common.{◌≤◌, length, take}
use Rattle.pawk_input.proofs.PassingLemmas.{LacksBefore}
use Rattle.pawk_input.proofs.passing.least_place.Given as goal

abbrev pub invariant-loop-word : goal.invariant-loop-word
invariant-loop-word l = record {
  within : l.least ≤ length l.text;
  none : 1 ≤ l.least → LacksBefore (take l.least l.text) l.words l.word-index;
}
