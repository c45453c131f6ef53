use Rattle.pawk_syntax_check.specs.KindViews.{kinds_in}
use Rattle.pawk_syntax_check.proofs.Finding.{kinds_found}
use Rattle.pawk_syntax_check.proofs.kinds.Kinds.new.Goals as goal

pub returns : goal.returns
unfolding kinds_in
returns c = λ fit. kinds_found _ _ c.in_ok-found.ensures fit
