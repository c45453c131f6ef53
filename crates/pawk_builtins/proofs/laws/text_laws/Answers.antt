use Rattle.pawk_builtins.proofs.SubstringLemmas.{substring_law}
use Rattle.pawk_builtins.proofs.TextLawLemmas as lemmas
use Rattle.pawk_builtins.proofs.laws.text_laws.Goals as goal

pub returns : goal.returns
returns c = record {
  index = lemmas.index_law;
  substring = substring_law;
  replacement = lemmas.replacement_law;
  replaced = lemmas.replaced_law;
}
