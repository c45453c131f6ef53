use Rattle.std.proofs.Common.{◌≡◌, length, rules, tests}
use Rattle.std.proofs.lemmas.List.{append-nil}
use Rattle.pawk_value.proofs.PieceLemmas as lemmas
use Rattle.pawk_value.proofs.template.read_template.Goals as goal

pub returns-clause-template : goal.returns-clause-template
returns-clause-template c =
    let empty : length c.loop-rest.rest.now ≡ 0 = search (rules, tests) in
    let none = lemmas.nothing_left c.loop-rest.rest.now empty in
    rw (none, append-nil) at c.loop-rest.invariant.pieces
