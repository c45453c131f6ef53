use Rattle.std.proofs.Common.{refl}
use Rattle.std.proofs.lemmas.List.{map-set}
use Rattle.pawk_value.specs.Value.{shown}
use Rattle.pawk_store.proofs.globals.put.Goals as goal

pub returns-in_ok-assign : goal.returns-in_ok-assign
returns-in_ok-assign c =
    rw (map-set shown c.args.values.now.items c.args.slot c.assign.new.value, c.in_ok-assign.ensures.value) refl
