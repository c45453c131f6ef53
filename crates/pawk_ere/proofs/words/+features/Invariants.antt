use Rattle.pawk_ere.specs.Words.{AreFeatures}
use Rattle.pawk_ere_automaton.specs.Regex.{copies}
use Rattle.pawk_ere_automaton.specs.Tree.{regex_of}
use Rattle.pawk_ere.proofs.words.+features.Given as goal

abbrev pub invariant-of_copies-loop-i : goal.invariant-of_copies-loop-i
invariant-of_copies-loop-i l = AreFeatures (copies l._i (regex_of l.a)) l.all
