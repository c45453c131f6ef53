use Rattle.std.proofs.Common.{sym, ◌∙◌}
use Rattle.pawk_words.proofs.Parts.{some_bytes, no_bytes}
use Rattle.pawk_words.proofs.Readings.{empty_short, other_damaged}
use Rattle.pawk_words.proofs.read.read_front.Goals as goal

pub returns-then-is_empty : goal.returns-then-is_empty
returns-then-is_empty c = empty_short c.args.bytes.now (no_bytes c.args.bytes.now (sym c.if-is_empty.true ∙ c.is_empty.ensures))

pub returns-else-first-eq45 : goal.returns-else-first-eq45
returns-else-first-eq45 c =
    let some = some_bytes c.args.bytes.now (sym c.if-is_empty.false ∙ c.is_empty.ensures) in
    other_damaged c.args.bytes.now some (sym c.is_ascii_lowercase.ensures.value ∙ c.if-is_ascii_lowercase.false) (sym c.is_ascii_digit.ensures.value ∙ c.if-is_ascii_digit.false) c.if-first-eq45.false
