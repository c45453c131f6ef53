use Rattle.std.proofs.Common.{sym, ◌∙◌, map, []}
use Rattle.pawk_value.specs.Value.{shown}
use Rattle.pawk_value.specs.Format.{pieces_of}
use Rattle.pawk_value.proofs.CapLemmas as lemmas
use Rattle.pawk_value.proofs.formats.format.Goals as goal

pub returns-in_err-push_format : goal.returns-in_err-push_format
returns-in_err-push_format c =
    lemmas.stop_of_format (Unit {0}) c.args.format.now (map shown c.args.values.now) c.push_format.new.out.items _ _ c.in_err-push_format.ensures c.from_residual.ensures.1

pub returns : goal.returns
returns c = sym (lemmas.cap_text (pieces_of c.args.format.now) (map shown c.args.values.now) []) ∙ c.in_ok-push_format.ensures
