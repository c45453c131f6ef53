use Rattle.std.proofs.Common.{ap, arith}
use Rattle.pawk_words.specs.declared.word.Word.TheVariants.{Name}
use Rattle.pawk_words.specs.Words.{name}
use Rattle.pawk_words.proofs.Readings.{name_long, name_read}
use Rattle.pawk_words.proofs.read.read_name.Goals as goal

pub returns-then-count-gt-NAME_LIMIT : goal.returns-then-count-gt-NAME_LIMIT
returns-then-count-gt-NAME_LIMIT c = name_long c.args.bytes.now (omega (arith, c.count_letters-count.ensures.value))

pub returns : goal.returns
returns c =
    let letters = c.count_letters-count.ensures in
    name_read c.args.bytes.now c.count_letters-count.result (Name c.split_at.result.0) c.with_gap.result letters.value letters.within (omega (arith, letters.value))
    c.if-count-gt-NAME_LIMIT.false (ap name c.split_at.ensures.front) (rw c.split_at.ensures.back at c.with_gap.ensures)
