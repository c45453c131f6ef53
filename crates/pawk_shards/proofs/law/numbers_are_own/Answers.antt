use Rattle.pawk_shards.proofs.NumberLemmas.{end_alike, shard_files}
use Rattle.pawk_shards.proofs.law.numbers_are_own.Goals as goal

pub returns-clause-renumbered : goal.returns-clause-renumbered
returns-clause-renumbered c = λ p may some others h.
    end_alike p may (c.records_keep.ensures p) (c.records_keep-2.ensures p) (c.records_keep-3.ensures p) some others h

pub returns-clause-files : goal.returns-clause-files
returns-clause-files c = shard_files
