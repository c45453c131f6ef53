use Rattle.std.proofs.Common.{◌≡◌, IfOk, Result, Ok, Err, List, ℕ, Vec, Global, sym, subst, ap, ◌∙◌}
use Rattle.std.specs.declared.alloc.AllocError.{AllocError}
use Rattle.pawk_ere_automaton.specs.Expand.{expand}
use Rattle.pawk_ere_automaton.specs.Regex.{Regex, Takes}
use Rattle.pawk_ere_automaton.specs.Tree.{regex_of}
use Rattle.pawk_ere_automaton.proofs.Turns.{expand_if}
use Rattle.pawk_ere_syntax.specs.Pattern.{Pattern}
use Rattle.pawk_ere_syntax.specs.Spelled.{expression}
use Rattle.pawk_ere.specs.Words.{AreNeeded, NeedsWords}
use Rattle.pawk_ere.proofs.Needed.{none_without}
use Rattle.pawk_ere.proofs.words.needed_words_of.Goals as goal

-- what the expanded expression needs, the expression needs
needs_words : (e : Pattern) (r : Regex) (words : List (List ℕ)) → r ≡ expand e → AreNeeded r words → NeedsWords e words
needs_words e r words same needed some s none k low j m =
    none_without r s words needed some none k low j (subst (λ x. Takes x s k j) (sym same) (expand_if e s k j m))

answers : (e : Pattern) (r : Regex) (words : Result (Vec (List ℕ) Global) AllocError) → r ≡ expand e → IfOk words (λ w. AreNeeded r w.items) → IfOk words (λ w. NeedsWords e w.items)
answers e r (Ok words) same needed = needs_words e r words.items same needed
answers e r (Err why) same needed = tt

pub returns : goal.returns
returns c =
    answers (expression c.args.ere.now) (regex_of c.in_ok-node.node) c.needed_words.result (c.in_ok-node.ensures ∙ ap expand c.root.ensures)
    (c.needed_words.ensures (regex_of c.in_ok-node.node) c.in_ok-features_of.ensures)
