use Rattle.std.proofs.Common.{◌≡◌, take}
use Rattle.std.specs.List.{All}
use Rattle.pawk_admit.specs.declared.role.Role.TheVariants.{Reader}
use Rattle.pawk_admit.specs.Roles.{role_of_array, roles_view}
use Rattle.pawk_noted.proofs.noted.NotedGlobals.has_created.Given as goal

abbrev pub invariant-loop-array : goal.invariant-loop-array
invariant-loop-array l = All (λ n. role_of_array (roles_view l.roles) n ≡ Reader) (take l.array-index l.self.arrays)
