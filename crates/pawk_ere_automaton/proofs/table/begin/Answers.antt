use Rattle.std.proofs.Common.{◌≡◌, replicate, rules}
use Rattle.pawk_ere_automaton.specs.Tree.{regex_of}
use Rattle.pawk_ere_automaton.proofs.Rows.{states_pushed}
use Rattle.pawk_ere_automaton.proofs.table.begin.Goals as goal

pub returns-clause-table : goal.returns-clause-table
returns-clause-table c =
    let a = c.in_ok-begin_state.ensures in
    let b = c.in_ok-begin_state-2.ensures in
    let d = c.in_ok-begin_state-3.ensures in
    let e = c.in_ok-idle.ensures in
    let blank : c.in_ok-next.next.items ≡ replicate 1024 0 = search rules in
    states_pushed (regex_of c.args.node.now) _ _ _ _ _ _ _ _ _ _ c.new-states.ensures.items c.in_ok-push.ensures.items c.in_ok-push-2.ensures.items c.in_ok-push-3.ensures.items c.in_ok-push-4.ensures.items blank
    a.state b.state d.state e.state a.begin b.begin d.begin e.begin
