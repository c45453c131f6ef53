use Rattle.pawk_pieces.proofs.MergedLemmas.{merged_far}
use Rattle.pawk_pieces.proofs.law.results_merge_far.Goals as goal

pub returns : goal.returns
returns c = λ o may rs files plan each numbered results are.
    merged_far c.results_merge_from.ensures c.may_run_on.ensures c.merges_far.ensures.far (c.pieces_follow.ensures.pieces tt) (c.pieces_follow.ensures.skips tt)
    o may rs files plan each numbered results are
