use Rattle.std.specs.Prelude.{false}
use Rattle.pawk_merge_law.proofs.CutLemmas.{cut}
use Rattle.pawk_merge_law.proofs.window_law.paragraphs_part.Goals as goal

pub returns : goal.returns
returns c = λ xs ys h. cut xs false ys h
