use Rattle.pawk_lex.proofs.CutLaws.{cut_writable}
use Rattle.pawk_syntax_tree.proofs.ItemKept.{program_kept}
use Rattle.pawk_syntax_show.proofs.WritableProgram.{program_writable}
use Rattle.pawk_syntax_show.proofs.ProgramCut.{program_cut}
use Rattle.pawk_syntax_show.proofs.laws.canonical_text_is_cut.Goals as goal

pub returns : goal.returns
returns c text ts xs bytes cut d = program_cut xs (program_kept d) (program_writable d (cut_writable bytes cut))
