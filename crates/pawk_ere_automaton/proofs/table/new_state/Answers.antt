use Rattle.std.proofs.Common.{List, Bool, true, false, ap, ◌∙◌, subst}
use Rattle.pawk_ere_automaton.specs.Table.{ends_with, IsDead}
use Rattle.pawk_ere_automaton.specs.Tree.{regex_of}
use Rattle.pawk_ere_automaton.proofs.table.new_state.Goals as goal

pub returns-clause-state : goal.returns-clause-state
returns-clause-state c =
    let e = regex_of c.args.node.now in
    record {
      inside = c.ends.ensures ∙ ap (λ (m : List Bool). ends_with e c.args.enter m c.args.first false) c.deref.ensures.value;
      at_end = c.ends-2.ensures ∙ ap (λ (m : List Bool). ends_with e c.args.enter m c.args.first true) c.deref-2.ensures.value;
      dead = λ h. subst (λ (m : List Bool). IsDead e c.args.enter c.args.first m) c.deref-3.ensures.value (c.is_dead.ensures h);
    }
