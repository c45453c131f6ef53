use Rattle.std.proofs.Common.{refl}
use Rattle.pawk_merge.specs.Merges.{merge}
use Rattle.pawk_merge_law.specs.Phases.{opening}
use Rattle.pawk_merge_law.specs.ChunkedRuns.{all_of}
use Rattle.pawk_merge_law.proofs.OpeningLemmas.{begins}
use Rattle.pawk_merge_law.proofs.StepLemmas.{Laws, chunks_meet, untraced}
use Rattle.pawk_merge_law.proofs.merge_law.chunks_merge.Goals as goal

pub returns : goal.returns
returns c = λ p may chunks told each ran.
    let law : Laws p = record {
      keep = c.records_keep.ensures p;
      follow = c.records_follow.ensures p;
      anew = c.reads_anew.ensures p;
      anew_chunk = c.reads_anew-2.ensures p;
      commute = c.commutes.ensures;
      again = c.starts_again.ensures;
      tell = c.merge_tells.ensures;
      appended = c.trace_is_appended.ensures;
      one_join = c.one_join_law.ensures;
      takes_law = c.takes_law.ensures;
    } in
    untraced p c.trace_changes_nothing.ensures (all_of chunks) (merge told (opening p))
    (chunks_meet p may law chunks told p.state.nr p.globals p.state p.output (begins p may) refl each ran)
