use Rattle.std.proofs.Common.{◌≡◌, arith, w64}
use Rattle.std.proofs.lemmas.Int.{ints}
use mir.Val.{to_z, of_z}
use Rattle.pawk_admit.specs.Roles.{roles_view}
use Rattle.pawk_world.specs.Worlds.{scalar}
use Rattle.pawk_frozen.proofs.TableLemmas.{added}
use Rattle.pawk_frozen.proofs.frozen.FrozenWorld.add_scalar.Goals as goal

pub returns-in-Ok : goal.returns-in-Ok
returns-in-Ok c =
    let same : to_z w64 (of_z w64 c.in-Ok.number) ≡ c.in-Ok.number = omega (arith, ints) in
    let here = rw same at c.add_scalar.ensures in
    added c.self.inside.fixed.now (roles_view c.self.inside.roles.now) c.self.inside.table c.add_scalar.new.self c.args.self.now (scalar c.args.slot) c.args.sign c.args.amount c.in-Ok.number c.add_scalar.result
    c.self.view_is c.in-Ok.is here
