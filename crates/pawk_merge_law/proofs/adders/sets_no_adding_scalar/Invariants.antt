use Rattle.std.proofs.Common.{◌≡◌, ℕ, ◌<◌, map}
use Rattle.pawk_admit.specs.declared.role.Role.TheVariants.{Adder}
use Rattle.pawk_admit.specs.Roles.{role_of_scalar, roles_view}
use Rattle.pawk_frozen.specs.MarkViews.{mark_view}
use Rattle.pawk_merge.specs.Tables.{scalar_mark}
use Rattle.pawk_merge_law.specs.Adders.{SetsNothing}
use Rattle.pawk_merge_law.proofs.adders.sets_no_adding_scalar.Given as goal

abbrev pub invariant-loop-slot : goal.invariant-loop-slot
invariant-loop-slot l = (n : ℕ) → n < l.slot → role_of_scalar (roles_view l.fn.roles) n ≡ Adder → SetsNothing (scalar_mark (map mark_view l.fn.marks) n)
