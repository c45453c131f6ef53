use Rattle.std.proofs.Common.{[], ap, length, arith, ◌∙◌}
use Rattle.pawk_records.specs.Separator.{rs_of}
use Rattle.pawk_records.proofs.BlocksLemmas.{no_records}
use Rattle.pawk_input.proofs.ItemsLemmas.{length-items_ahead_alone, next_piece}
use Rattle.pawk_input.proofs.walk.Records.of_part.Goals as goal

pub invariant_of-result : goal.invariant_of-result
invariant_of-result c =
    let rs = rs_of c.args.separator in
    let none = c.none-2.ensures in
    let passed = ap length (next_piece rs c.args.file c.args.name.now c.args.nr c.args.fnr [] c.args.pieces [] (no_records rs)) ∙ length-items_ahead_alone rs c.args.file c.args.name.now c.args.nr c.args.fnr c.args.pieces in
    rw none (omega (arith, passed), c.requires.in_file, omega arith, omega arith, c.none.ensures rs [])
