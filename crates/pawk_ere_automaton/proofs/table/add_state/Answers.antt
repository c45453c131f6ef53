use Rattle.std.proofs.Common.{◌≡◌, arith, length}
use Rattle.pawk_ere_automaton.specs.Tree.{regex_of}
use Rattle.pawk_ere_automaton.proofs.Rows.{states_push, states_room, get_end, get_append}
use Rattle.pawk_ere_automaton.proofs.table.add_state.Goals as goal

pub returns-in_err-push-clause-table : goal.returns-in_err-push-clause-table
returns-in_err-push-clause-table c =
    rw (c.in_err-push.ensures.items, c.in_ok-extend_from_slice.ensures.items)
    (states_room (regex_of c.args.node.now) c.args.table.now.states.items c.args.table.now.next.items c.requires.table)

pub returns-clause-table : goal.returns-clause-table
returns-clause-table c =
    rw (c.in_ok-push.ensures.items, c.in_ok-extend_from_slice.ensures.items)
    (states_push (regex_of c.args.node.now) c.args.table.now.states.items c.args.table.now.next.items c.args.state c.requires.room c.requires.table c.requires.state)

pub returns-clause-added : goal.returns-clause-added
returns-clause-added c =
    let e : length c.args.table.now.states.items ≡ c.len-place.result = omega (arith, c.args.table.now.states.ok.0) in
    rw (c.in_ok-push.ensures.items, ← e) (get_end c.args.table.now.states.items c.args.state)

pub returns-clause-kept : goal.returns-clause-kept
returns-clause-kept c = λ q t h. rw c.in_ok-push.ensures.items (get_append c.args.table.now.states.items _ q t h)
