use Rattle.pawk_resolve_law.proofs.refused.dropped_addition.Goals as goal

pub returns : goal.returns
returns c s p e h = h.0
