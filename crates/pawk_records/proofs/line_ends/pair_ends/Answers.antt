use Rattle.std.proofs.Common.{◌+◌, ◌*◌, ap₂, arith, ◌∙◌}
use Rattle.pawk_records.proofs.LineEndsLemmas.{bits_few, bits_on}
use Rattle.pawk_records.proofs.line_ends.pair_ends.Goals as goal

pub overflow_mul-result : goal.overflow_mul-result
overflow_mul-result c = record { fits = omega (arith, bits_few c.args.separator (c.args.place + 16) 16 c.args.text.now, c.lane_ends-behind.ensures) }

pub overflow_add-result : goal.overflow_add-result
overflow_add-result c =
    let here = bits_few c.args.separator c.args.place 16 c.args.text.now in
    let behind = bits_few c.args.separator (c.args.place + 16) 16 c.args.text.now in
    record { fits = omega (arith, here, behind, c.lane_ends-here.ensures, c.lane_ends-behind.ensures) }

pub returns : goal.returns
returns c =
    ap₂ (λ a b. a + b * 65536) c.lane_ends-here.ensures c.lane_ends-behind.ensures
    ∙ bits_on c.args.separator 16 16 c.args.place c.args.text.now (omega (arith, c.requires))
