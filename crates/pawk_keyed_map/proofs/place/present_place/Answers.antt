use Rattle.std.proofs.Common.{◌∙◌}
use Rattle.pawk_keyed_map.proofs.PairsLemmas.{contains_by, place_if_found}
use Rattle.pawk_keyed_map.proofs.place.present_place.Goals as goal

pub returns-clause-place : goal.returns-clause-place
returns-clause-place g c =
    place_if_found c.args.key.now c.args.map.now.entries c.get_index_of.result c.get_index_of.ensures.index c.get_index_of.ensures.within

pub returns-clause-found : goal.returns-clause-found
returns-clause-found g c = c.get_index_of.ensures.found ∙ contains_by (λ v. v) c.args.key.now c.args.map.now.entries
