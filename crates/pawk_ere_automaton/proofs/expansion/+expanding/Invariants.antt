use Rattle.std.proofs.Common.{◌≡◌}
use Rattle.pawk_ere_automaton.specs.Expand.{at_most, expand}
use Rattle.pawk_ere_syntax.specs.Tree.{pattern_of}
use Rattle.pawk_ere_automaton.specs.Tree.{regex_of}
use Rattle.pawk_ere_automaton.proofs.expansion.+expanding.Given as goal

abbrev pub invariant-up_to-loop-i : goal.invariant-up_to-loop-i
invariant-up_to-loop-i l = regex_of l.all ≡ at_most l._i (expand (pattern_of l.a))
