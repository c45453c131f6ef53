use Rattle.std.proofs.Common.{◌≡◌, ◌≤◌, take, vec_len}
use Rattle.pawk_fields.specs.FieldWalks.{NeedsFinder, most_left}
use Rattle.pawk_fields.proofs.WalkLemmas.{Adds}
use Rattle.pawk_fields.proofs.append.push_ranges.Given as goal

abbrev pub invariant-loop-misses : goal.invariant-loop-misses
invariant-loop-misses g l = record {
  adds : Adds l.initial.fields l.fields l.initial.ranges.items l.ranges.items;
  front : take (vec_len l.initial.ranges) l.ranges.items ≡ l.initial.ranges.items;
  long : vec_len l.initial.ranges ≤ vec_len l.ranges;
  needs : NeedsFinder l.fields → NeedsFinder l.initial.fields;
  pattern : l.fields.pattern ≡ l.initial.fields.pattern;
  text : l.fields.text ≡ l.initial.fields.text;
  finder : l.finder ≡ l.initial.finder;
  misses : g.F.Finder.are_misses l.initial.finder l.initial.fields.text l.misses;
}

abbrev pub decreases-loop-misses : goal.decreases-loop-misses
decreases-loop-misses g l = most_left l.fields.next l.fields.text
