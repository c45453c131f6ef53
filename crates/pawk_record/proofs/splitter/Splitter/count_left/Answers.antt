use Rattle.std.proofs.Common.{◌∙◌, ap, length, sym}
use Rattle.pawk_record.proofs.SplittingLemmas.{left_plain}
use Rattle.pawk_record.proofs.splitter.Splitter.count_left.Goals as goal

pub returns-in-Plain : goal.returns-in-Plain
returns-in-Plain c =
    c.count_from.ensures
    ∙ ap length (sym (left_plain c.args.self.now c.in-Plain.separator c.args.text.now c.args.next c.in-Plain.is))
