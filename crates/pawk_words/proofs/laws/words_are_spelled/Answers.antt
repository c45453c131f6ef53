use Rattle.std.proofs.Common.{length, refl}
use Rattle.std.specs.Fmt.{decimal}
use Rattle.pawk_words.proofs.Numerals.{numeral_of}
use Rattle.pawk_words.proofs.WordLaws.{spelled, zero_alone, no_minus_zero}
use Rattle.pawk_words.proofs.laws.words_are_spelled.Goals as goal

pub returns-clause-spells : goal.returns-clause-spells
returns-clause-spells c w s h = spelled w s h

pub returns-clause-zero : goal.returns-clause-zero
returns-clause-zero c z h e = zero_alone z h e

pub returns-clause-minus : goal.returns-clause-minus
returns-clause-minus c z bytes h e = no_minus_zero z bytes h e

pub returns-clause-counted : goal.returns-clause-counted
returns-clause-counted c bytes h = (decimal (length bytes), numeral_of (length bytes) h, refl)
