use Rattle.pawk_shards.proofs.PartLemmas.{Laws, part_says, parts_as_one, part_apart}
use Rattle.pawk_shards.proofs.law.parts_are_chunks.Goals as goal

pub returns : goal.returns
returns c =
    let law : Laws = record {
      one = c.chunks_merge_apart.ensures.one;
      later = c.records_go_on.ensures.later;
      notes = c.neighbours_are_joined.ensures.notes;
      again = c.neighbours_are_joined.ensures.again;
      neighbours = c.neighbours_are_joined.ensures.chunks;
    } in
    record { says = part_says law; as_one = parts_as_one; apart = part_apart law }
