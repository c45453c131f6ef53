use Rattle.std.proofs.Common.{ap, sym, ◌∙◌}
use Rattle.std.specs.Prelude.{slice_get}
use Rattle.pawk_fields.specs.FieldSeparator.{range_of}
use Rattle.pawk_record.specs.Lines.{value_by}
use Rattle.pawk_record.specs.Records.{value_or_uninit}
use Rattle.pawk_record.proofs.LineLemmas.{value_past, value_there}
use Rattle.pawk_record.proofs.layout.FieldsRef.value.Goals as goal

pub returns-in-None : goal.returns-in-None
returns-in-None c = let f = c.args.self in ap value_or_uninit (sym (value_past f.text.now f.ranges.now f.kinds.now c.args.number c.in-None.ensures))

pub returns-in-Some : goal.returns-in-Some
returns-in-Some c =
    let f = c.args.self in
    c.value_by.ensures
    ∙ ap (λ k. value_by k c.bytes_in.result.now) c.kind_at.ensures
    ∙ ap (value_by (slice_get f.kinds.now c.args.number)) c.bytes_in.ensures
    ∙ sym (ap value_or_uninit (value_there f.text.now f.ranges.now f.kinds.now c.args.number (range_of (c.in-Some.start, c.in-Some.end)) c.in-Some.ensures))
