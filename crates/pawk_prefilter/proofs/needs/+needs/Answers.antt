use Rattle.std.proofs.Common.{◌≡◌, ◌∙◌, ◌≤◌, ap, sym, subst, length, IfOk, List, ℕ, Vec, Global}
use Rattle.pawk_code.specs.Expressions.{either}
use Rattle.pawk_code.specs.ExpressionViews.{test_view, view}
use Rattle.pawk_prefilter.specs.Needs.{IsIdleTest}
use Rattle.pawk_prefilter.specs.Passages.{texts_of}
use Rattle.pawk_prefilter.proofs.needs.+needs.Goals as goal

pub words_of_test-returns-in_ok-words_of-in-Or : goal.words_of_test-returns-in_ok-words_of-in-Or
words_of_test-returns-in_ok-words_of-in-Or t c =
    let eres = texts_of c.args.expressions.now in
    let first = view c.deref-in-Or.result.now in
    let second = view c.deref-in-Or-2.result.now in
    let is : test_view c.args.test.now ≡ either first second =
    ap test_view c.in-Or.is ∙ ap (λ a. either a (view c.in-Or.second.value)) (sym (ap view c.deref-in-Or.ensures)) ∙ ap (either first) (sym (ap view c.deref-in-Or-2.ensures)) in
    subst (λ test. IfOk c.words_of_either.result (λ (words : Vec (List ℕ) Global). 1 ≤ length words.items → IsIdleTest eres words.items test)) (sym is)
    (c.words_of_either.ensures eres first second c.in_ok-words-in-Or.ensures c.in_ok-words_of-in-Or.ensures)
