use Rattle.std.proofs.Common.{◌≡◌, sym, subst, ap, ◌∙◌}
use Rattle.pawk_ere_automaton.specs.Expand.{expand}
use Rattle.pawk_ere_automaton.specs.Regex.{Takes}
use Rattle.pawk_ere_syntax.specs.Spelled.{expression}
use Rattle.pawk_ere_automaton.specs.Tree.{regex_of}
use Rattle.pawk_ere_automaton.proofs.Turns.{expand_is, expand_if}
use Rattle.pawk_ere.proofs.matcher.Matcher.new.Goals as goal

pub returns : goal.returns
returns c = record {
  same = λ s i j.
      let same : regex_of c.in_ok-node.node ≡ expand (expression c.args.ere.now) = c.in_ok-node.ensures ∙ ap expand c.root.ensures in (
        λ t. expand_is (expression c.args.ere.now) s i j (subst (λ r. Takes r s i j) same t),
        λ m. subst (λ r. Takes r s i j) (sym same) (expand_if (expression c.args.ere.now) s i j m),
      );
}
