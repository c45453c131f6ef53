use Rattle.std.proofs.Common.{◌≡◌, Err, ap}
use Rattle.std.proofs.lemmas.Result.{err_from_is_err_and}
use Rattle.pawk_parts.specs.declared.refusal.TableRefusal.TheVariants.{Damage}
use Rattle.pawk_store.specs.Openings.{pairs_of}
use Rattle.pawk_tables.specs.Layout.{assign_lines, place_lines}
use Rattle.pawk_tables.specs.Reading.{BeginsLines}
use Rattle.pawk_tables.specs.Views.{shard_of}
use Rattle.pawk_tables.proofs.HeaderLemmas.{assignments_same, from_steps, place_same, program_same, to_steps}
use Rattle.pawk_tables.proofs.header.read_header.Goals as goal

pub returns-in_err-program-clause-damage : goal.returns-in_err-program-clause-damage
returns-in_err-program-clause-damage c d h q b =
    let k = to_steps c.args.bytes.now q h b in
    c.in_err-program.ensures h.program h.budget k.after_program k.program

pub returns-in_err-assignments-clause-damage : goal.returns-in_err-assignments-clause-damage
returns-in_err-assignments-clause-damage c d h q b =
    let p = err_from_is_err_and c.from_residual-in_err-assignments.result c.from_residual-in_err-assignments.ensures.1 in
    let refusal : c.in_err-assignments.field-0.0 ≡ Damage = cc (p.1, p.2) in
    let bytes = c.args.bytes.now in
    let rest = c.in_ok-program.rest.now in
    let k = to_steps bytes q h b in
    let one = program_same bytes rest k.after_program c.in_ok-program.program.now h.program c.in_ok-program.budget h.budget c.in_ok-program.ensures k.program in
    let here : BeginsLines rest (assign_lines h.assignments) k.after_assignments = rw one.left k.assignments in
    c.in_err-assignments.ensures.damage (ap Err refusal) h.assignments k.after_assignments here k.other

pub returns-in_err-shard-clause-damage : goal.returns-in_err-shard-clause-damage
returns-in_err-shard-clause-damage c d h q b =
    let bytes = c.args.bytes.now in
    let rest = c.in_ok-program.rest.now in
    let next = c.in_ok-assignments.rest.now in
    let k = to_steps bytes q h b in
    let one = program_same bytes rest k.after_program c.in_ok-program.program.now h.program c.in_ok-program.budget h.budget c.in_ok-program.ensures k.program in
    let here : BeginsLines rest (assign_lines h.assignments) k.after_assignments = rw one.left k.assignments in
    let two = assignments_same rest next k.after_assignments (pairs_of c.in_ok-assignments.assignments.items) h.assignments c.in_ok-assignments.ensures.found.0 c.in_ok-assignments.ensures.found.1 here k.other in
    let place : BeginsLines next (place_lines h.shard h.before) k.after_place = rw two.left k.place in
    c.in_err-shard.ensures h.shard h.before k.after_place place

pub returns-in_err-first-clause-damage : goal.returns-in_err-first-clause-damage
returns-in_err-first-clause-damage c d h q b =
    let p = err_from_is_err_and c.from_residual-in_err-first.result c.from_residual-in_err-first.ensures.1 in
    let refusal : c.in_err-first.field-0.0 ≡ Damage = cc (p.1, p.2) in
    let bytes = c.args.bytes.now in
    let rest = c.in_ok-program.rest.now in
    let next = c.in_ok-assignments.rest.now in
    let last = c.in_ok-shard.rest.now in
    let k = to_steps bytes q h b in
    let one = program_same bytes rest k.after_program c.in_ok-program.program.now h.program c.in_ok-program.budget h.budget c.in_ok-program.ensures k.program in
    let here : BeginsLines rest (assign_lines h.assignments) k.after_assignments = rw one.left k.assignments in
    let two = assignments_same rest next k.after_assignments (pairs_of c.in_ok-assignments.assignments.items) h.assignments c.in_ok-assignments.ensures.found.0 c.in_ok-assignments.ensures.found.1 here k.other in
    let place : BeginsLines next (place_lines h.shard h.before) k.after_place = rw two.left k.place in
    let three = place_same next last k.after_place (shard_of c.in_ok-shard.shard) h.shard c.in_ok-shard.before h.before c.in_ok-shard.ensures place in
    let first : BeginsLines last (assign_lines h.first) q = rw three.left k.first in
    c.in_err-first.ensures.damage (ap Err refusal) h.first q first k.next

pub returns-clause-found : goal.returns-clause-found
returns-clause-found c = from_steps c.args.bytes.now c.in_ok-first.rest.now _ (record {
  after_program = c.in_ok-program.rest.now;
  after_assignments = c.in_ok-assignments.rest.now;
  after_place = c.in_ok-shard.rest.now;
  program = c.in_ok-program.ensures;
  assignments = c.in_ok-assignments.ensures.found.0;
  other = c.in_ok-assignments.ensures.found.1;
  place = c.in_ok-shard.ensures;
  first = c.in_ok-first.ensures.found.0;
  next = c.in_ok-first.ensures.found.1;
})
