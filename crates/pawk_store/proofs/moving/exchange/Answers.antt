use Rattle.std.proofs.Common.{◌∙◌, ap}
use Rattle.std.specs.Prelude.{map, slice_set}
use Rattle.std.proofs.lemmas.List.{map-set}
use Rattle.pawk_value.specs.Value.{shown}
use Rattle.pawk_store.proofs.moving.exchange.Goals as goal

pub returns-then-slot-len-clause-new : goal.returns-then-slot-len-clause-new
returns-then-slot-len-clause-new c =
    map-set shown c.args.values.now.items c.args.slot c.replace.new.dest
    ∙ ap (λ v. slice_set (map shown c.args.values.now.items) c.args.slot (shown v)) c.replace.ensures.after
