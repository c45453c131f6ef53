use Rattle.std.proofs.Common.{sym, ◌∙◌}
use Rattle.pawk_value.proofs.FormatLemmas as lemmas
use Rattle.pawk_value.proofs.output.write_zero.Goals as goal
use Rattle.pawk_value.proofs.output.write_zero.Goals.{else-has_no_digits-via-then-has_no_digits+else-not-leads_with_zero, else-has_no_digits-via-else-has_no_digits}

pub returns-clause-written : goal.returns-clause-written
returns-clause-written c =
    let byte = lemmas.last_byte c.args.buffer.now 23 48 c.told-buffer in
    elim c.else-has_no_digits.branch [
      | else-has_no_digits-via-then-has_no_digits+else-not-leads_with_zero w ↦ byte ∙ sym (lemmas.zero_leads c.args.directive (sym w.leads_with_zero.ensures ∙ w.if-not-leads_with_zero.false) (sym c.has_no_digits.ensures ∙ w.if-has_no_digits.true))
      | else-has_no_digits-via-else-has_no_digits w ↦ byte ∙ sym (lemmas.zero_plain c.args.directive c.requires (sym c.has_no_digits.ensures ∙ w.if-has_no_digits.false))
    ]
