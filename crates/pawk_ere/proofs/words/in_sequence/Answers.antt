use Rattle.std.proofs.Common.{ap, ◌∙◌, refl, List, ℕ, ◌++◌}
use Rattle.pawk_ere.proofs.Needed.{features_of_both, features_of_second}
use Rattle.pawk_ere.proofs.words.in_sequence.Goals as goal

pub returns-then-features : goal.returns-then-features
returns-then-features c = λ a b f g.
    features_of_both a b c.args.first c.args.second _ f g c.if-features.true (c.in_ok-extend_from_slice.ensures.items ∙ ap (λ (l : List ℕ). c.args.first.tail.items ++ l) c.deref.ensures.value) refl refl

pub returns : goal.returns
returns c = λ a b f g.
    features_of_second a b c.in_ok-needed_words.field-0.items c.args.second _ (c.in_ok-needed_words.ensures a f) g c.if-features.false refl refl c.heavier.ensures
