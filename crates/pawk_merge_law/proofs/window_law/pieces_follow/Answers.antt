use Rattle.pawk_merge_law.proofs.PiecesLemmas.{same, skips_none, pieces}
use Rattle.pawk_merge_law.proofs.window_law.pieces_follow.Goals as goal

pub returns-clause-pieces : goal.returns-clause-pieces
returns-clause-pieces g c = λ i eres code budget skip e items more is_open. (
  same (g.P.Policy.calls i) eres code budget items skip e,
  pieces (g.P.Policy.calls i) eres code budget more items skip e is_open,
)

pub returns-clause-skips : goal.returns-clause-skips
returns-clause-skips g c = λ i eres code budget skip e items h. skips_none (g.P.Policy.calls i) eres code budget items skip e h
