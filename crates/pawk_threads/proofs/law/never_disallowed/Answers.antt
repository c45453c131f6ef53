use Rattle.std.proofs.Common.{length}
use Rattle.pawk_store.specs.Openings.{opened}
use Rattle.pawk_store.specs.RecordStates.{opening}
use Rattle.pawk_threads.proofs.AllowedLemmas.{no_clash}
use Rattle.pawk_threads.proofs.law.never_disallowed.Goals as goal

pub returns : goal.returns
returns c = λ code budget assignments files.
    c.never_disallows.ensures tt no_clash code.expressions code budget files
    (opened code.scalars (length code.arrays) assignments) (opening (length code.rules))
