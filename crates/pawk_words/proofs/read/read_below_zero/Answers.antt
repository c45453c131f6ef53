use Rattle.std.proofs.Common.{◌≡◌, ◌∷◌, pos, neg_ℤ, ap, sym, ◌∙◌, subst, arith, to_z, of_z}
use Rattle.std.specs.Int.{w128}
use Rattle.std.proofs.lemmas.Int.{ints}
use Rattle.pawk_words.specs.declared.word.Word.TheVariants.{Number}
use Rattle.pawk_words.specs.Words.{number}
use Rattle.pawk_words.specs.Reading.{IsCutShort, IsDamaged, Reads, IsDecimalFront}
use Rattle.pawk_words.proofs.Readings.{minus_first, minus_damaged, minus_short, minus_zero, below_read}
use Rattle.pawk_words.proofs.read.read_below_zero.Goals as goal

pub returns-in_default : goal.returns-in_default
returns-in_default c =
    let rest = c.after_first-rest.result.now in
    let whole = minus_first c.args.bytes.now rest c.requires.some c.requires.minus c.after_first-rest.ensures in
    subst IsDamaged (sym whole) (minus_damaged rest c.in_default.ensures)

pub returns-then-digits-eq0 : goal.returns-then-digits-eq0
returns-then-digits-eq0 c =
    let rest = c.after_first-rest.result.now in
    let whole = minus_first c.args.bytes.now rest c.requires.some c.requires.minus c.after_first-rest.ensures in
    let f : IsDecimalFront rest c.in-Some.digits.count c.in-Some.digits.size = c.in-Some.ensures in
    subst IsCutShort (sym (whole ∙ ap (λ l. 45 ∷ l) (f.some c.if-digits-eq0.true))) minus_short

pub returns-then-digits-eq0-2 : goal.returns-then-digits-eq0-2
returns-then-digits-eq0-2 c =
    let rest = c.after_first-rest.result.now in
    let whole = minus_first c.args.bytes.now rest c.requires.some c.requires.minus c.after_first-rest.ensures in
    let f : IsDecimalFront rest c.in-Some.digits.count c.in-Some.digits.size = c.in-Some.ensures in
    subst IsDamaged (sym whole) (minus_zero rest c.in-Some.digits.count (rw c.if-digits-eq0-2.true at f) (omega arith))

pub returns : goal.returns
returns c =
    let rest = c.after_first-rest.result.now in
    let whole = minus_first c.args.bytes.now rest c.requires.some c.requires.minus c.after_first-rest.ensures in
    let f : IsDecimalFront rest c.in-Some.digits.count c.in-Some.digits.size = c.in-Some.ensures in
    let word : to_z w128 (of_z w128 c.below_zero.result) ≡ neg_ℤ (pos c.in-Some.digits.size) = omega (arith, ints, c.below_zero.ensures, f.small) in
    subst (λ l. Reads l c.with_gap.result) (sym whole)
    (below_read rest c.in-Some.digits.count c.in-Some.digits.size (Number (to_z w128 (of_z w128 c.below_zero.result))) c.with_gap.result f (omega arith) (omega arith)
    (ap number word) (rw c.split_at.ensures.back at c.with_gap.ensures))
