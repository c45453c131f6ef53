use Rattle.pawk_ere.proofs.Needed.{filled}
use Rattle.pawk_prefilter.proofs.PassageLemmas.{both_idle}
use Rattle.pawk_prefilter.proofs.needs.words_of_either.Goals as goal

pub returns : goal.returns
returns c = λ eres a b f g some.
    both_idle eres c.args.first.items c.args.second.items c.append.new.self.items a b c.in_ok-append.ensures.items
    (f (filled c.args.first c.is_empty.result c.is_empty.ensures c.if-is_empty.false))
    (g (filled c.args.second c.is_empty-else-is_empty.result c.is_empty-else-is_empty.ensures c.if-is_empty-2.false))
