use Rattle.std.proofs.Common.{◌++◌, ◌∙◌, ap, sym, map, inr}
use Rattle.std.proofs.lemmas.Result.{on_ok_weaker}
use Rattle.pawk_fields.specs.FieldSeparator.{range_of}
use Rattle.pawk_record.proofs.SplittingLemmas.{left_plain}
use Rattle.pawk_record.proofs.splitter.Splitter.find.Goals as goal

pub returns-in-Plain-clause-same : goal.returns-in-Plain-clause-same
returns-in-Plain-clause-same c =
    ap (λ l. c.find_fields.new.ranges.items ++ map range_of l) (left_plain c.args.self.now c.in-Plain.separator c.args.text.now c.find_fields.new.next c.in-Plain.is)
    ∙ c.find_fields.ensures.same
    ∙ ap (λ l. c.args.ranges.now.items ++ map range_of l) (sym (left_plain c.args.self.now c.in-Plain.separator c.args.text.now c.args.next.now c.in-Plain.is))

pub returns-clause-enough : goal.returns-clause-enough
returns-clause-enough c = on_ok_weaker c.find_rest.result inr c.find_rest.ensures.none
