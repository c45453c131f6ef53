use Rattle.std.proofs.Common.{refl}
use Rattle.std.proofs.lemmas.List.{map-set}
use Rattle.pawk_runtime.specs.Moments.{hold_of}
use Rattle.pawk_runtime.proofs.writing.set_parameter.Goals as goal

pub returns-in_ok-assign_parameter : goal.returns-in_ok-assign_parameter
returns-in_ok-assign_parameter c =
    rw (map-set hold_of c.args.frame.now.items c.args.number c.assign_parameter.new.parameter, c.in_ok-assign_parameter.ensures) refl
