use Rattle.pawk_fields.proofs.BetweenLemmas.{within_next}
use Rattle.pawk_fields.proofs.walk.FieldWalk.next_range.Goals as goal

pub cut_at-cut-requires-clause-found : goal.cut_at-cut-requires-clause-found
cut_at-cut-requires-clause-found g c = within_next _ _ c.args.self.now.paragraph _ _ c.in_ok-found.ensures.found
