use Rattle.std.proofs.Common.{◌≡◌, ◌++◌, ◌∙◌, refl, ap, sym, map, append-nil, arith, false, rules, ⊎_elim}
use Rattle.std.proofs.lemmas.Result.{on_ok_weaker}
use Rattle.std.specs.Prelude.{is_none}
use Rattle.pawk_fields.specs.FieldSeparator.{range_of}
use Rattle.pawk_fields.specs.FieldList.{fields_of}
use Rattle.pawk_record.specs.Splitting.{ranges_or_none}
use Rattle.pawk_record.proofs.SplittingLemmas.{left_bad, left_expression, left_none, left_plain}
use Rattle.pawk_record.proofs.splitter.Splitter.find_rest.Goals as goal

pub returns-in-Plain-clause-same : goal.returns-in-Plain-clause-same
returns-in-Plain-clause-same c =
    ap (λ l. c.find_fields.new.ranges.items ++ map range_of l) (left_plain _ c.in-Plain.separator c.args.text.now c.find_fields.new.next refl)
    ∙ c.find_fields.ensures.same
    ∙ ap (λ l. c.args.ranges.now.items ++ map range_of l) (sym (left_plain c.args.self.now c.in-Plain.separator c.args.text.now c.args.next.now c.in-Plain.is))

pub returns-in_ok-find_all-in-Expression-clause-same : goal.returns-in_ok-find_all-in-Expression-clause-same
returns-in_ok-find_all-in-Expression-clause-same c =
    let some : is_none c.args.next.now ≡ false = search rules in
    ap (λ l. c.find_all.new.ranges.items ++ map range_of l) (left_none _ c.args.text.now)
    ∙ append-nil c.find_all.new.ranges.items
    ∙ c.in_ok-find_all-in-Expression.ensures.same
    ∙ ap (λ fs. c.args.ranges.now.items ++ map range_of (ranges_or_none (fields_of fs c.args.self.now.paragraph c.args.text.now))) c.as_slice.ensures.value
    ∙ ap (λ l. c.args.ranges.now.items ++ map range_of l) (sym (left_expression c.args.self.now _ c.args.text.now c.args.next.now c.in-Expression.is some))

pub returns-in-Bad-clause-same : goal.returns-in-Bad-clause-same
returns-in-Bad-clause-same c =
    ap (λ l. c.args.ranges.now.items ++ map range_of l) (left_none _ c.args.text.now ∙ sym (left_bad c.args.self.now _ c.args.text.now c.args.next.now c.in-Bad.is))

pub returns-in-Plain-clause-none : goal.returns-in-Plain-clause-none
returns-in-Plain-clause-none c = on_ok_weaker c.find_fields.result (λ enough. ⊎_elim (λ most. absurd (omega (arith, most, c.find_fields.new.ranges.ok.0, c.find_fields.new.ranges.small))) (λ none. none) enough) c.find_fields.ensures.enough
