use Rattle.std.proofs.Common.{refl}
use Rattle.std.proofs.lemmas.Int.{to_z-of_z}
use Rattle.std.proofs.lemmas.List.{map-set}
use Rattle.pawk_runtime.specs.Moments.{hold_of}
use Rattle.pawk_runtime.proofs.writing.put_number.Goals as goal

pub returns-then-place-len : goal.returns-then-place-len
returns-then-place-len c =
    let same = simp (to_z-of_z, c.ranges.number) at c.become_number.ensures in
    rw (map-set hold_of c.args.frame.now.items c.args.place c.become_number.new.parameter, same) refl
