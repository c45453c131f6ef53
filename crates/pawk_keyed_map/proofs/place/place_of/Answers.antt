use Rattle.std.proofs.Common.{is_some, sym, ◌∙◌, ap}
use Rattle.pawk_keyed_map.proofs.PairsLemmas.{touched_present}
use Rattle.pawk_keyed_map.proofs.place.place_of.Goals as goal

pub returns-in-Some-clause-touched : goal.returns-in-Some-clause-touched
returns-in-Some-clause-touched g c =
    touched_present c.args.fresh c.args.key.now c.args.map.now.entries (sym c.present_place.ensures.found ∙ ap is_some c.in-Some.is)
