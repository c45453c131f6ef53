use Rattle.std.proofs.Common.{◌≡◌, ℕ, ◌<◌, List}
use Rattle.pawk_admit.specs.declared.role.Role.TheVariants.{Adder}
use Rattle.pawk_admit.specs.Roles.{role_of_array, roles_view}
use Rattle.pawk_frozen.specs.Marks.{mark_found}
use Rattle.pawk_merge.specs.Tables.{array_marks}
use Rattle.pawk_merge_law.specs.Adders.{SetsNothing}
use Rattle.pawk_merge_law.proofs.adders.sets_no_adding_array.Given as goal

abbrev pub invariant-loop-slot : goal.invariant-loop-slot
invariant-loop-slot l = (n : ℕ) → n < l.slot → role_of_array (roles_view l.fn.roles) n ≡ Adder → (key : List ℕ) → SetsNothing (mark_found key (array_marks l.fn.marks n))
