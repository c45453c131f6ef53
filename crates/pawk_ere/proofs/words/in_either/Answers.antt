use Rattle.std.proofs.Common.{subst, sym}
use Rattle.pawk_ere.specs.Words.{AreFeatures}
use Rattle.pawk_ere_automaton.specs.Regex.{Either}
use Rattle.pawk_ere.proofs.Needed.{filled, features_of_either, features_of_nothing}
use Rattle.pawk_ere.proofs.words.in_either.Goals as goal
use Rattle.pawk_ere.proofs.words.in_either.Goals.{then-saturating_add-le-MOST_WORDS+in_ok-append, else-saturating_add-le-MOST_WORDS}

pub returns-then-is_empty : goal.returns-then-is_empty
returns-then-is_empty c = λ a b f g. let n = c.nothing-features.ensures in features_of_nothing (Either a b) c.nothing-features.result n.tail n.whole n.words

pub returns : goal.returns
returns c = λ a b f g.
    let n = c.nothing-features.ensures in
    elim c.if-saturating_add-le-MOST_WORDS.branch [
      | then-saturating_add-le-MOST_WORDS+in_ok-append w ↦
          subst (AreFeatures (Either a b)) (sym w.features-is) (features_of_either a b c.in_ok-words.words.items c.in_ok-others.others.items _ (c.in_ok-words.ensures a f) (c.in_ok-others.ensures b g)
          (filled c.in_ok-words.words c.is_empty.result c.is_empty.ensures c.if-is_empty.false)
          (filled c.in_ok-others.others c.is_empty-else-is_empty.result c.is_empty-else-is_empty.ensures c.if-is_empty-2.false)
          n.tail n.whole w.in_ok-append.ensures.items)
      | else-saturating_add-le-MOST_WORDS w ↦ subst (AreFeatures (Either a b)) (sym w.features-is) (features_of_nothing (Either a b) c.nothing-features.result n.tail n.whole n.words)
    ]
