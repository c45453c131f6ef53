use Rattle.std.proofs.Common.{refl}
use Rattle.pawk_words.proofs.WordLaws.{written_same, all_same}
use Rattle.pawk_words.proofs.laws.words_are_read_again.Goals as goal

pub returns-clause-begins : goal.returns-clause-begins
returns-clause-begins c w g rest h = record { word = h; front = refl }

pub returns-clause-word : goal.returns-clause-word
returns-clause-word c w v g h rest others k l e =
    let same = written_same w v g h rest others k l e in
    (same.word, same.gap, same.left)

pub returns-clause-all : goal.returns-clause-all
returns-clause-all c ws vs h k e = all_same ws vs h k e
