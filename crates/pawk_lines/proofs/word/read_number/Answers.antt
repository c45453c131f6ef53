use Rattle.std.proofs.Common.{sym, subst}
use Rattle.pawk_words.specs.Words.{shown}
use Rattle.pawk_lines.specs.Reading.{Fails, Numbers}
use Rattle.pawk_lines.proofs.WordLemmas.{number_wrong, number_cut, numbers_one, wrong_bytes}
use Rattle.pawk_lines.proofs.word.read_number.Goals as goal

pub returns-in-None : goal.returns-in-None
returns-in-None c =
    let k = rw c.in-Ok-Some.field-0-is at c.in-Ok-Some.ensures.found in
    number_wrong c.args.bytes.now c.in-Ok-Some.rest.now (shown c.in-Ok-Some.word) c.args.range.below c.args.range.above c.args.gap c.requires.below c.requires.above k c.in-None.ensures

pub returns-in-Ok-None : goal.returns-in-Ok-None
returns-in-Ok-None c =
    let k = rw c.in-Ok-None.field-0-is at c.in-Ok-None.ensures.short in
    subst (Fails (Numbers c.args.range.below c.args.range.above c.args.gap) c.args.bytes.now) (sym c.cut.ensures)
    (number_cut c.args.bytes.now c.args.range.below c.args.range.above c.args.gap c.begins_number.result c.requires.below c.requires.above c.begins_number.ensures k)

pub returns-in-Err : goal.returns-in-Err
returns-in-Err c = wrong_bytes (Numbers c.args.range.below c.args.range.above c.args.gap) c.args.bytes.now c.args.gap (numbers_one c.args.range.below c.args.range.above c.args.gap c.requires.below c.requires.above) c.in-Err.ensures.damage
