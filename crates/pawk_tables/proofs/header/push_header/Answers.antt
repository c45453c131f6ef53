use Rattle.std.proofs.Common.{◌++◌}
use Rattle.std.proofs.lemmas.List.Elements.{All-append}
use Rattle.std.proofs.lemmas.Result.{on_ok_weaker}
use Rattle.pawk_lines.specs.Lines.{IsLine}
use Rattle.pawk_store.specs.Openings.{pairs_of}
use Rattle.pawk_tables.specs.Layout.{assign_lines, place_lines, program_lines}
use Rattle.pawk_tables.specs.Views.{shard_of}
use Rattle.pawk_tables.proofs.Writing.{four_written}
use Rattle.pawk_tables.proofs.header.push_header.Goals as goal

pub returns-clause-written : goal.returns-clause-written
returns-clause-written c =
    let h = c.args.header.now in
    four_written c.push_assignments-2.result c.args.out.now.items c.push_program.new.out.items c.push_assignments.new.out.items c.push_place.new.out.items c.push_assignments-2.new.out.items
    (program_lines h.program.now h.budget) (assign_lines (pairs_of h.assignments.now)) (place_lines (shard_of h.shard) h.before) (assign_lines (pairs_of h.first.now))
    c.in_ok-push_program.ensures.written c.in_ok-push_assignments.ensures.written c.in_ok-push_place.ensures.written c.push_assignments-2.ensures.written

pub returns-clause-lines : goal.returns-clause-lines
returns-clause-lines c =
    let h = c.args.header.now in
    let assignments = assign_lines (pairs_of h.assignments.now) in
    let place = place_lines (shard_of h.shard) h.before in
    let first = assign_lines (pairs_of h.first.now) in
    on_ok_weaker c.push_assignments-2.result
    (λ last. All-append IsLine (program_lines h.program.now h.budget) (assignments ++ (place ++ first)) c.in_ok-push_program.ensures.lines
    (All-append IsLine assignments (place ++ first) c.in_ok-push_assignments.ensures.lines (All-append IsLine place first c.in_ok-push_place.ensures.lines last)))
    c.push_assignments-2.ensures.lines
