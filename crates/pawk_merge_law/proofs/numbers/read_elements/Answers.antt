use Rattle.std.proofs.Common.{All, subst}
use Rattle.pawk_store.specs.Globals.{array_at}
use Rattle.pawk_merge_law.proofs.ReadyLemmas.{Fits, each_fits}
use Rattle.pawk_merge_law.proofs.numbers.read_elements.Goals as goal

pub returns : goal.returns
returns c = λ key.
    let es = array_at c.args.globals.now c.args.array in
    each_fits es key (subst (All (Fits es key)) c.in_ok-keys.ensures c.read_keys.ensures)
