use Rattle.std.proofs.Common.{map, subst, ap, ◌∙◌}
use Rattle.std.specs.Prelude.{Contains}
use Rattle.pawk_code.specs.ProgramViews.{code_view}
use Rattle.pawk_admit.specs.declared.reason.Reason.{Reason}
use Rattle.pawk_admit.specs.Reaches.{Occurs}
use Rattle.pawk_admit.specs.Admission.{Holds, IsFirst}
use Rattle.pawk_admit.specs.Roles.{Roles, roles_view}
use Rattle.pawk_admit.specs.Marks.{AreTables}
use Rattle.pawk_admit.specs.Decisions.{scalar_role, array_role}
use Rattle.pawk_admit.proofs.RoleLaws.{answer_along, none_along, roles_by}
use Rattle.pawk_admit.proofs.admission.admit.Goals as goal

pub returns-in-Some-clause-reason : goal.returns-in-Some-clause-reason
returns-in-Some-clause-reason c =
    let list = c.in_ok-list.list.items in
    let r = c.in-Some.reason in
    let first : IsFirst (Contains list) r = subst (λ l. IsFirst (Contains l) r) c.deref-2.ensures.value c.in-Some.ensures.some in
    answer_along (Contains list) (Occurs (code_view c.args.code.now)) c.in_ok-list.ensures r first

pub returns-clause-admissible : goal.returns-clause-admissible
returns-clause-admissible c =
    let list = c.in_ok-list.list.items in
    let none : (r : Reason) → ¬ Holds (Contains list) r =
    subst (λ l. (r : Reason) → ¬ Holds (Contains l) r) c.deref-2.ensures.value c.in_default.ensures.none in
    none_along (Contains list) (Occurs (code_view c.args.code.now)) c.in_ok-list.ensures none

pub returns-clause-roles : goal.returns-clause-roles
returns-clause-roles c =
    let list = c.in_ok-list.list.items in
    let tables = c.in_ok-tables.tables in
    let none : (r : Reason) → ¬ Holds (Contains list) r =
    subst (λ l. (r : Reason) → ¬ Holds (Contains l) r) c.deref-2.ensures.value c.in_default.ensures.none in
    let are : AreTables list tables = subst (λ l. AreTables l tables) c.deref.ensures.value c.in_ok-tables.ensures.marks in
    let roles : Roles = roles_view (record { scalars = c.in_ok-scalar_roles.field-0; arrays = c.in_ok-array_roles.field-0 }) in
    roles_by list tables (Occurs (code_view c.args.code.now)) roles are c.in_ok-list.ensures none
    (c.in_ok-scalar_roles.ensures ∙ ap (map scalar_role) c.deref-3.ensures.value)
    (c.in_ok-array_roles.ensures ∙ ap (map array_role) c.deref-4.ensures.value)
