use Rattle.pawk_builtins.specs.MatcherViews.{AreOfTheirTexts}
use Rattle.pawk_builtins.proofs.matchers.empty_slots.Given as goal

abbrev pub invariant-loop : goal.invariant-loop
invariant-loop l = AreOfTheirTexts l.slots.items
