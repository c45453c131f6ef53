use Rattle.pawk_settings.proofs.ValueLawLemmas.{value_law, string_law}
use Rattle.pawk_settings.proofs.law.value_law.Goals as goal

pub returns : goal.returns
returns c = record { value = value_law; string = string_law }
