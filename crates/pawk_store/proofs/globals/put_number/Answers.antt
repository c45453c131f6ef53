use Rattle.std.proofs.Common.{rules}
use Rattle.std.proofs.lemmas.List.{map-set}
use Rattle.pawk_value.specs.Value.{shown}
use Rattle.pawk_store.proofs.globals.put_number.Goals as goal

pub returns-then-slot-len : goal.returns-then-slot-len
returns-then-slot-len c =
    rw (map-set shown c.args.values.now.items c.args.slot _) (search rules)
