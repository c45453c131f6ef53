use Rattle.pawk_merge_law.proofs.WayLemmas.{Laws, ways}
use Rattle.pawk_merge_law.proofs.window_law.windows_tell.Goals as goal

pub returns : goal.returns
returns c = λ p a steps on none h.
    let law : Laws = record {
      chunks = c.chunks_merge.ensures;
      traces = c.trace_changes_nothing.ensures;
      longer = c.trace_is_appended.ensures;
      appended = c.output_is_appended.ensures.records tt;
      appended_traced = c.output_is_appended-2.ensures.records p;
    } in
    ways law p a steps on none h
