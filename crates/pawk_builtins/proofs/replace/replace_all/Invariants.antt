use Rattle.std.proofs.Common.{◌≡◌, ◌≤◌, length}
use Rattle.pawk_ere_syntax.specs.Pattern.{Pattern}
use Rattle.pawk_ere.specs.Answers.{AreMissesFor, IsFor}
use Rattle.pawk_code.specs.declared.word.ReplacedMatches.TheVariants.{All}
use Rattle.pawk_store.specs.Builtins.{replaced}
use Rattle.pawk_builtins.specs.ReplaceWalks.{replaced_after, left_after, IsLaidOut}
use Rattle.pawk_builtins.proofs.replace.replace_all.Given as goal

abbrev pub invariant-loop-misses : goal.invariant-loop-misses
invariant-loop-misses l = record {
  matcher : l.matcher ≡ l.initial.matcher;
  misses : AreMissesFor l.initial.matcher l.text l.misses;
  ordered : l.place ≤ l.from;
  high : l.from ≤ length l.text;
  laid : (e : Pattern) → IsFor e l.initial.matcher →
      IsLaidOut (replaced All e l.replacement l.text) l.text l.out.items l.place l.from l.count (replaced_after e l.replacement l.text l.from l.behind);
}

abbrev pub decreases-loop-misses : goal.decreases-loop-misses
decreases-loop-misses l = left_after l.text l.from l.behind
