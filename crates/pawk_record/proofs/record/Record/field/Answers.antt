use Rattle.std.proofs.Common.{◌≡◌, ◌-◌, ◌∙◌, ap, subst}
use Rattle.std.specs.Prelude.{slice_get}
use Rattle.pawk_record.specs.Lines.{line_of, values}
use Rattle.pawk_record.specs.Records.{IsPrepared, SplitRecord, field_at, value_or_uninit}
use Rattle.pawk_record.specs.Views.{text_of}
use Rattle.pawk_record.proofs.ViewLemmas.{field_prepared}
use Rattle.pawk_record.proofs.record.Record.field.Goals as goal

pub returns : goal.returns
returns c =
    let r = c.self.inside in
    let n = c.args.n in
    let text : c.line-text.result.now ≡ text_of r = c.line-text.ensures ∙ ap (λ t. line_of r.is_own t r.lent.now) c.as_slice.ensures.value in
    c.value.ensures
    ∙ ap (λ t. value_or_uninit (slice_get (values t c.as_slice-2.result.now c.as_slice-3.result.now) (n - 1))) text
    ∙ ap (λ rs. value_or_uninit (slice_get (values (text_of r) rs c.as_slice-3.result.now) (n - 1))) c.as_slice-2.ensures.value
    ∙ ap (λ ks. value_or_uninit (slice_get (values (text_of r) r.here.ranges.items ks) (n - 1))) c.as_slice-3.ensures.value
    ∙ subst (λ (v : SplitRecord). IsPrepared v n → value_or_uninit (slice_get (values (text_of r) r.here.ranges.items r.here.kinds.items) (n - 1)) ≡ field_at v.record_now n) c.self.view_is (field_prepared r n c.if-n-eq0.false) c.requires
