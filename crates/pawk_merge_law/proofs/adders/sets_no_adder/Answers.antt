use Rattle.std.proofs.Common.{◌≡◌, ℕ, List, Bool, true, map, ap, sym, ◌∙◌, subst}
use Rattle.pawk_admit.specs.declared.role.Role.TheVariants.{Adder}
use Rattle.pawk_admit.specs.Roles.{role_of_array, role_of_scalar, roles_view}
use Rattle.pawk_frozen.specs.Marks.{Mark, Marks, mark_found}
use Rattle.pawk_merge.specs.Tables.{array_marks, scalar_mark}
use Rattle.pawk_merge_law.specs.Adders.{SetsNothing}
use Rattle.pawk_merge_law.proofs.AdderLemmas.{all_cells}
use Rattle.pawk_merge_law.proofs.adders.sets_no_adder.Goals as goal

pub returns-then-sets_no_adding_scalar : goal.returns-then-sets_no_adding_scalar
returns-then-sets_no_adding_scalar c = λ sets.
    all_cells (roles_view c.args.roles.now) c.args.table.now
    (λ n role. subst (λ (ms : List Mark). SetsNothing (scalar_mark ms n)) c.scalars.ensures (c.sets_no_adding_scalar.ensures c.if-sets_no_adding_scalar.true n role))
    (λ n role key. subst (λ (ms : List Marks). SetsNothing (mark_found key (array_marks ms n))) c.arrays.ensures (c.sets_no_adding_array.ensures sets n role key))
