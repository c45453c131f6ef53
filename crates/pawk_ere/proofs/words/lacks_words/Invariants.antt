use Rattle.pawk_ere.proofs.Needed.{LacksBefore}
use Rattle.pawk_ere.proofs.words.lacks_words.Given as goal

abbrev pub invariant-loop-word : goal.invariant-loop-word
invariant-loop-word l = LacksBefore l.text l.words l.word-index
