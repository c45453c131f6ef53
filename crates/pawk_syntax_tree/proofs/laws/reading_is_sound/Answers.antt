use Rattle.pawk_syntax_tree.proofs.ExprLaws.{read_is_derived}
use Rattle.pawk_syntax_tree.proofs.laws.reading_is_sound.Goals as goal

pub returns : goal.returns
returns c depth compares ts rest a e = read_is_derived depth compares ts rest a e
