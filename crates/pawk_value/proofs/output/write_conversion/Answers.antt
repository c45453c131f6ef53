use Rattle.std.proofs.Common.{sym, ◌∙◌, ap, ◌∷◌, arith, rules}
use Rattle.pawk_value.proofs.FormatLemmas as lemmas
use Rattle.pawk_value.proofs.output.write_conversion.Goals as goal

pub returns-clause-written : goal.returns-clause-written
returns-clause-written c =
    let start = c.write_plain-start.ensures.start in
    lemmas.one_more_byte c.write_plain-start.new.buffer c.write_plain-start.result 48 (omega arith) (search rules)
    ∙ ap (λ l. 48 ∷ l) c.write_plain-start.ensures.written
    ∙ sym (lemmas.some_leads c.args.directive c.args.number (omega arith) (sym c.leads_with_zero.ensures ∙ c.if-not-leads_with_zero.false))
