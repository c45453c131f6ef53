use Rattle.std.proofs.Common.{map}
use Rattle.pawk_value.specs.Value.{lent_value}
use Rattle.pawk_value.proofs.CapLemmas as lemmas
use Rattle.pawk_value.proofs.formats.format_into.Goals as goal

pub returns : goal.returns
returns c = lemmas.without_caps (Unit {0}) c.args.format.now (map lent_value c.args.values.now) _ _ c.push_format.ensures
