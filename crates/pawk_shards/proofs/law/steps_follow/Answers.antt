use Rattle.std.proofs.Common.{[]}
use Rattle.pawk_merge_law.specs.Phases.{opening}
use Rattle.pawk_shards.proofs.EndLemmas.{opens, come_so}
use Rattle.pawk_shards.proofs.StepLemmas.{Laws, more_steps, step_records, steps_end, last_step, stop, shards_end}
use Rattle.pawk_shards.proofs.law.steps_follow.Goals as goal

pub returns : goal.returns
returns c =
    let law : Laws = record {
      apart = c.chunks_merge_apart.ensures.apart;
      whole = c.chunks_merge_apart.ensures.whole;
      turn = c.records_go_on.ensures.turn;
      later = c.records_go_on.ensures.later;
    } in
    record {
      records = step_records;
      steps = λ p may items e come steps all f h later none.
          steps_end p may law items e (come_so p may (c.records_keep.ensures p) items e come) steps all f h later none;
      last = λ p may items e come steps all m h on s is known f to.
          last_step p may law items e (come_so p may (c.records_keep.ensures p) items e come) steps all m h on s is known f to;
      stop = λ p may items e come steps all m h on s is stops later.
          stop p may law items e (come_so p may (c.records_keep.ensures p) items e come) steps all m h on s is stops later;
      more = more_steps;
      shards = λ p may shards all f h.
          shards_end p may law (come_so p may (c.records_keep.ensures p) [] (opening p) (opens p)) shards all f h;
    }
