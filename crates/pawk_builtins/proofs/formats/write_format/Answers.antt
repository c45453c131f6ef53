use Rattle.std.proofs.Common.{subst, sym, map}
use Rattle.pawk_value.specs.Value.{lent_value}
use Rattle.pawk_code.specs.declared.expression.Format.{Format}
use Rattle.pawk_code.specs.ExpressionViews.{format_view}
use Rattle.pawk_store.specs.Builtins.{formatted_text}
use Rattle.pawk_builtins.specs.FormatViews.{format_text}
use Rattle.pawk_builtins.specs.Settles.{Settles}
use Rattle.pawk_builtins.proofs.FormatLemmas.{template_settles, format_settles}
use Rattle.pawk_builtins.proofs.formats.write_format.Goals as goal

pub returns-in-Fixed : goal.returns-in-Fixed
returns-in-Fixed c =
    let out = c.template_into.new.out.items in
    let vs = map lent_value c.args.values.now in
    subst (λ (f : Format). Settles (λ _. out) (formatted_text (format_text (format_view f) c.args.text.now) vs) c.template_into.result) (sym c.in-Fixed.is)
    (template_settles _ c.in-Fixed.fixed.template c.in-Fixed.fixed.text.items vs out c.template_into.result c.in-Fixed.fixed.read c.template_into.ensures)

pub returns-in-Value : goal.returns-in-Value
returns-in-Value c =
    let out = c.format_into.new.out.items in
    let vs = map lent_value c.args.values.now in
    subst (λ (f : Format). Settles (λ _. out) (formatted_text (format_text (format_view f) c.args.text.now) vs) c.format_into.result) (sym c.in-Value.is)
    (format_settles _ c.args.text.now vs out c.format_into.result c.format_into.ensures)
