use Rattle.std.proofs.Common.{ℕ, List, Result, Ok, refl, subst}
use Rattle.std.specs.Io.KnownBytes.{Appends}
use Rattle.pawk_code.specs.ProgramViews.{code_view}
use Rattle.pawk_store.specs.Openings.{pairs_of}
use Rattle.pawk_admit.specs.Roles.{roles_view}
use Rattle.pawk_admit.specs.declared.role.Roles.{Roles}
use Rattle.pawk_admit.specs.declared.reason.Reason.{Reason}
use Rattle.pawk_flow.specs.Begins.{AreRolesFrom}
use Rattle.pawk_table_merge.proofs.CarryLemmas.{any_steps}
use Rattle.pawk_table_merge.proofs.begin.go_on.Goals as goal

pub returns-in_ok-write_bytes-in-Ok-clause-begin : goal.returns-in_ok-write_bytes-in-Ok-clause-begin
returns-in_ok-write_bytes-in-Ok-clause-begin g c = record {
  start = c.args.start;
  is = c.requires;
  flow = refl;
  rs = refl;
  roles = c.in-Ok.is;
  scalars = c.scalar_count.ensures;
  arrays = c.array_count.ensures;
  opened = c.count-opened.ensures;
  wrote = subst (λ (o : List ℕ). Appends (g.K.Sink.taken c.args.sink.now) (g.K.Sink.taken c.write_bytes.new.sink) o) c.as_slice.ensures.value c.in_ok-write_bytes-in-Ok.ensures.all;
}

pub returns-in_ok-write_bytes-in-Ok-clause-of : goal.returns-in_ok-write_bytes-in-Ok-clause-of
returns-in_ok-write_bytes-in-Ok-clause-of g c =
    let o = c.args.order in
    let code = code_view o.job.code.now in
    let start = c.args.start in
    let from : AreRolesFrom code o.job.budget (pairs_of o.assignments.now) (pairs_of o.first.now) start.rs.items start.flow (Ok c.in-Ok.roles) =
    subst (λ (r : Result Roles Reason). AreRolesFrom code o.job.budget (pairs_of o.assignments.now) (pairs_of o.first.now) start.rs.items start.flow r)
    c.in-Ok.is c.requires.roles in
    record {
      one_byte = c.requires.one_byte;
      admissible = from.0;
      roles = from.1;
      ready = λ _. any_steps code (roles_view c.in-Ok.roles) o.job.budget start.flow from.2;
    }
