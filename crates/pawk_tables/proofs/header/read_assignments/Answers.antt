use Rattle.std.proofs.Common.{◌≡◌, [], ◌∷◌, ◌++◌, sym, subst}
use Rattle.pawk_lines.specs.Lines.{BeginsLine, assign}
use Rattle.pawk_settings.specs.declared.assignment.Assignment.{Assignment}
use Rattle.pawk_store.specs.Openings.{pairs_of}
use Rattle.pawk_tables.specs.Layout.{assign_lines}
use Rattle.pawk_tables.specs.Reading.{BeginsLines}
use Rattle.pawk_tables.proofs.HeaderLemmas.{assignments_more, assignments_none}
use Rattle.pawk_tables.proofs.header.read_assignments.Goals as goal

pub returns-in_err-name-clause-damage : goal.returns-in_err-name-clause-damage
returns-in_err-name-clause-damage c d pairs q b o =
    assignments_none c.args.bytes.now c.loop-assignments.rest.now q (pairs_of c.loop-assignments.assignments.items) pairs c.loop-assignments.invariant c.in_err-name.ensures b o

pub loop-assignments-preserved : goal.loop-assignments-preserved
loop-assignments-preserved c =
    let bytes = c.args.bytes.now in
    let r = c.loop-assignments.rest.now in
    let q = c.in_ok-name.field-0.1.now in
    let made : Assignment = record { name = c.in_ok-name-2.name; value = c.in_ok-value.value } in
    let items : c.push.new.self.items ≡ c.loop-assignments.assignments.items ++ made ∷ [] = rw c.in_ok-push.was at c.push.ensures.items in
    let line : BeginsLine r (assign c.in-Assign-default.name.now c.in-Assign-default.value.now) q = rw c.in-Assign-default.is-0 at c.in_ok-name.ensures in
    let here : BeginsLine r (assign made.name.items made.value.items) q = rw (c.in_ok-name-2.ensures.items, c.in_ok-value.ensures.items) line in
    subst (λ xs. BeginsLines bytes (assign_lines (pairs_of xs)) q) (sym items) (assignments_more bytes r q c.loop-assignments.assignments.items made c.loop-assignments.invariant here)
