use Rattle.std.proofs.Common.{ℕ, get_or, length, ◌<◌, ap, ◌∙◌, arith}
use Rattle.std.specs.Prelude.{slice_set}
use Rattle.std.specs.declared.ops.Range.{Range}
use Rattle.std.proofs.lemmas.List.{get_or_default}
use Rattle.std.proofs.lemmas.List.Edits.{map_over_more}
use Rattle.pawk_record.specs.Lines.{moved}
use Rattle.pawk_record.proofs.places.move_all.Goals as goal

pub loop-range-preserved : goal.loop-range-preserved
loop-range-preserved c =
    let ranges = c.loop-range.ranges in
    let i = c.loop-range.range-index in
    let none : Range ℕ = record { start = 0; end = 0 } in
    let range = get_or ranges i none in
    let within : i < length ranges = omega arith in
    ap (slice_set ranges i) c.move_one.ensures
    ∙ map_over_more (moved c.args.from c.args.to) c.args.ranges.now ranges i range (omega arith) c.loop-range.invariant (get_or_default ranges i none range within)
