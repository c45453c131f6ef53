use Rattle.std.proofs.lemmas.Bool.{false≢true, leb-true, le-leb, eqb-true}
use Rattle.pawk_words.specs.Reading.{IsDecimalFront}
use Rattle.pawk_lines.proofs.NumberLemmas.{decimal_there, decimal_all, decimal_most, decimal_none}
use Rattle.pawk_lines.proofs.number.begins_decimal.Goals as goal

pub returns-then-digits-bytes : goal.returns-then-digits-bytes
returns-then-digits-bytes c =
    let s = c.args.bytes.now in
    let f : IsDecimalFront c.args.bytes.now c.in-Some.digits.count c.in-Some.digits.size = c.in-Some.ensures in (
      λ t. decimal_there s c.in-Some.digits.count c.in-Some.digits.size c.args.greatest f c.if-digits-bytes.true (leb-true c.in-Some.digits.size c.args.greatest t),
      λ b. le-leb c.in-Some.digits.size c.args.greatest (decimal_most s c.in-Some.digits.count c.in-Some.digits.size c.args.greatest f c.requires b),
    )

pub returns-else-digits-bytes : goal.returns-else-digits-bytes
returns-else-digits-bytes c =
    let f : IsDecimalFront c.args.bytes.now c.in-Some.digits.count c.in-Some.digits.size = c.in-Some.ensures in (
      λ t. absurd (c.if-digits-bytes.false (eqb-true _ _ t)),
      λ b. absurd (c.if-digits-bytes.false (decimal_all c.args.bytes.now c.in-Some.digits.count c.in-Some.digits.size c.args.greatest f c.requires b)),
    )

pub returns-in-None : goal.returns-in-None
returns-in-None c = (λ t. absurd (false≢true t), λ b. absurd (decimal_none c.args.bytes.now c.args.greatest c.in-None.ensures c.requires b))
