use Rattle.pawk_shards.specs.Apart.{ApartLaw}
use Rattle.pawk_shards.proofs.ApartLemmas.{apart, whole, one_apart}
use Rattle.pawk_shards.proofs.EndLemmas.{leaves}
use Rattle.pawk_shards.proofs.FarLemmas.{far_apart}
use Rattle.pawk_shards.proofs.law.chunks_merge_apart.Goals as goal

pub returns : goal.returns
returns c =
    let law : ApartLaw = λ p may items e come chunks results each ran.
    apart p may c.chunks_merge.ensures (c.records_keep.ensures p) items e come chunks results each ran in
    record {
      apart = law;
      far = far_apart c.merges_far.ensures.far c.merges_far.ensures.first law;
      whole = λ p may items e come chunks results each ran some f h.
          whole p may c.chunks_merge.ensures (c.records_keep.ensures p) items e come chunks results each ran some f h;
      one = λ p may items e come chunk d has told.
          one_apart p may c.chunks_merge.ensures (c.records_keep.ensures p) items e come chunk d has told;
      leaves = λ p may nr chunk d told. leaves p may (c.records_keep-2.ensures p) nr chunk d told;
    }
