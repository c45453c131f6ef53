use Rattle.std.proofs.Common.{get_or, length, ◌<◌, ap, ◌∙◌, arith}
use Rattle.std.specs.Prelude.{slice_set}
use Rattle.std.proofs.lemmas.List.{get_or_default}
use Rattle.std.proofs.lemmas.List.Edits.{map_over_more}
use Rattle.pawk_store.specs.Builtins.{letter_in}
use Rattle.pawk_builtins.proofs.letters.change_letters.Goals as goal

pub loop-byte-preserved : goal.loop-byte-preserved
loop-byte-preserved c =
    let bytes = c.loop-byte.bytes in
    let i = c.loop-byte.byte-index in
    let byte = get_or bytes i 0 in
    let within : i < length bytes = omega arith in
    ap (slice_set bytes i) c.letter_of.ensures
    ∙ map_over_more (letter_in c.args.case) c.args.bytes.now bytes i byte (omega arith) c.loop-byte.invariant (get_or_default bytes i 0 byte within)
