use Rattle.pawk_ere_automaton.specs.Members.{members_of}
use Rattle.std.proofs.Common.{◌≡◌, ap, ◌∙◌, subst, sym, Bor}
use Rattle.pawk_ere.specs.Runs.{IsRun, IsTurns}
use Rattle.pawk_ere.proofs.Runs.{map_some, turns_before_nothing, turns_plus}
use Rattle.pawk_ere_automaton.specs.Regex.{Empty, Plus, Sequence}
use Rattle.pawk_ere_automaton.specs.Tree.{regex_of}
use Rattle.pawk_ere_automaton.specs.declared.members.Members.{Members}
use Rattle.pawk_ere.proofs.run.+turns_of.Goals as goal

pub returns-in-Empty-deref : goal.returns-in-Empty-deref
returns-in-Empty-deref t c =
    let a = c.deref-in-Empty-deref.result.now in
    let is : regex_of c.args.node.now ≡ Sequence (regex_of a) Empty =
    ap regex_of c.in-Sequence.is
    ∙ ap (λ x. Sequence (regex_of x) (regex_of c.in-Sequence.b.value)) (sym c.deref-in-Empty-deref.ensures)
    ∙ ap (λ x. Sequence (regex_of a) (regex_of x)) (sym c.deref.ensures ∙ c.in-Empty-deref.is) in
    map_some (λ (set : Bor Members). IsTurns (regex_of a) (members_of set.now)) (λ (set : Bor Members). IsTurns (regex_of c.args.node.now) (members_of set.now)) c.turns_of.result
    (λ set f. subst (λ e. IsTurns e (members_of set.now)) (sym is) (turns_before_nothing (regex_of a) (members_of set.now) f))
    c.turns_of.ensures

pub returns-then-count-eq1 : goal.returns-then-count-eq1
returns-then-count-eq1 t c =
    let a = c.deref-in-Plus.result.now in
    let members = members_of c.in_ok-set-in-Plus.set.now in
    let is : regex_of c.args.node.now ≡ Plus (regex_of a) =
    ap regex_of c.in-Plus.is ∙ ap (λ x. Plus (regex_of x)) (sym c.deref-in-Plus.ensures) in
    subst (λ e. IsTurns e members) (sym is)
    (turns_plus (regex_of a) members (subst (IsRun (regex_of a) members) c.if-count-eq1.true c.in_ok-set-in-Plus.ensures))
