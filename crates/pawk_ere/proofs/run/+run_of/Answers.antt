use Rattle.pawk_ere_automaton.specs.Members.{members_of}
use Rattle.std.proofs.Common.{◌≡◌, ℕ, ◌*◌, ap, ◌∙◌, subst, sym, Bor}
use Rattle.pawk_ere.specs.Runs.{IsRun}
use Rattle.pawk_ere.proofs.Runs.{map_some, run_before_nothing, run_copies}
use Rattle.pawk_ere_automaton.specs.Regex.{Empty, Sequence, copies}
use Rattle.pawk_ere_automaton.specs.Tree.{regex_of}
use Rattle.pawk_ere_automaton.specs.declared.members.Members.{Members}
use Rattle.pawk_ere.proofs.run.+run_of.Goals as goal

pub returns-in-Empty-deref : goal.returns-in-Empty-deref
returns-in-Empty-deref t c =
    let a = c.deref-in-Empty-deref.result.now in
    let is : regex_of c.args.node.now ≡ Sequence (regex_of a) Empty =
    ap regex_of c.in-Sequence.is
    ∙ ap (λ x. Sequence (regex_of x) (regex_of c.in-Sequence.b.value)) (sym c.deref-in-Empty-deref.ensures)
    ∙ ap (λ x. Sequence (regex_of a) (regex_of x)) (sym c.deref-in-Sequence.ensures ∙ c.in-Empty-deref.is) in
    map_some (λ (run : Bor Members × ℕ). IsRun (regex_of a) (members_of run.0.now) run.1) (λ (run : Bor Members × ℕ). IsRun (regex_of c.args.node.now) (members_of run.0.now) run.1) c.run_of.result
    (λ run f. subst (λ e. IsRun e (members_of run.0.now) run.1) (sym is) (run_before_nothing (regex_of a) (members_of run.0.now) run.1 f))
    c.run_of.ensures

pub returns-in_ok-count-in-Copies : goal.returns-in_ok-count-in-Copies
returns-in_ok-count-in-Copies t c =
    let a = c.deref-in-Copies.result.now in
    let members = (members_of c.in_ok-set-in-Copies.set.now) in
    let is : regex_of c.args.node.now ≡ copies c.in-Copies.copies (regex_of a) =
    ap regex_of c.in-Copies.is ∙ ap (λ x. copies c.in-Copies.copies (regex_of x)) (sym c.deref-in-Copies.ensures) in
    let many : c.in_ok-count-in-Copies.count ≡ c.in-Copies.copies * c.in_ok-set-in-Copies.count = c.in_ok-count-in-Copies.ensures.1 in
    subst (λ e. IsRun e members c.in_ok-count-in-Copies.count) (sym is)
    (subst (IsRun (copies c.in-Copies.copies (regex_of a)) members) (sym many)
    (run_copies (regex_of a) members c.in-Copies.copies c.in_ok-set-in-Copies.count c.in_ok-set-in-Copies.ensures))
