use Rattle.std.proofs.Common.{◌≡◌, ◌+◌, suc, ap, ◌∙◌, subst, sym, arith}
use Rattle.pawk_ere.specs.Words.{AreFeatures}
use Rattle.pawk_ere_automaton.specs.Regex.{Plus, Sequence, copies}
use Rattle.pawk_ere_automaton.specs.Tree.{regex_of}
use Rattle.pawk_ere.proofs.Needed.{features_of_nothing, features_before_nothing}
use Rattle.pawk_ere.proofs.words.+features.Goals as goal

pub features_of-returns-in_ok-features_of-in-Plus : goal.features_of-returns-in_ok-features_of-in-Plus
features_of-returns-in_ok-features_of-in-Plus t c =
    subst (λ e. AreFeatures e c.in_turns.result) (sym (ap regex_of c.in-Plus.is ∙ ap (λ x. Plus (regex_of x)) (sym c.deref-in-Plus.ensures)))
    (c.in_turns.ensures (regex_of c.deref-in-Plus.result.now) c.in_ok-features_of-in-Plus.ensures)

pub features_of-returns-in-Empty : goal.features_of-returns-in-Empty
features_of-returns-in-Empty t c = features_of_nothing (regex_of c.args.node.now) c.nothing.result c.nothing.ensures.tail c.nothing.ensures.whole c.nothing.ensures.words

pub with_second-returns-in-Empty : goal.with_second-returns-in-Empty
with_second-returns-in-Empty t c = λ a f.
    subst (λ n. AreFeatures (Sequence a (regex_of n)) c.args.first) (sym c.in-Empty.is) (features_before_nothing a c.args.first f)

pub of_copies-returns-then-count-eq0 : goal.of_copies-returns-then-count-eq0
of_copies-returns-then-count-eq0 t c = features_of_nothing (copies c.args.count (regex_of c.args.a.now)) c.nothing.result c.nothing.ensures.tail c.nothing.ensures.whole c.nothing.ensures.words

pub of_copies-loop-i-preserved : goal.of_copies-loop-i-preserved
of_copies-loop-i-preserved t c =
    let e : suc c.loop-i._i ≡ c.loop-i._i + 1 = omega arith in
    subst (λ n. AreFeatures (copies n (regex_of c.args.a.now)) c.in_ok-all-2.all) e (c.in_ok-all-2.ensures (regex_of c.args.a.now) (copies c.loop-i._i (regex_of c.args.a.now)) c.in_ok-features_of.ensures c.loop-i.invariant)
