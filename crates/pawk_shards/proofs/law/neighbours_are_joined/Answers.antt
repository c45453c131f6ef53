use Rattle.pawk_shards.proofs.ApartLemmas.{slots_there}
use Rattle.pawk_shards.proofs.JoinedLemmas.{marks_compose, tables_compose, neighbours}
use Rattle.pawk_shards.proofs.NotedLemmas.{composes, notes_so, noted_again}
use Rattle.pawk_shards.proofs.law.neighbours_are_joined.Goals as goal

pub returns : goal.returns
returns c = record {
  marks = marks_compose;
  tables = tables_compose;
  composes = composes;
  notes = notes_so c.lockstep_records.ensures;
  again = noted_again;
  chunks = λ p may items e come d next w first second marks on more.
      neighbours p e (c.records_go_on.ensures.may_run p may items e come)
      (slots_there p may c.chunks_merge.ensures (c.records_keep.ensures p) items e come)
      d next w first second marks on more;
}
