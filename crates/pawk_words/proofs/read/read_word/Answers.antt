use Rattle.pawk_words.proofs.WordLaws.{reads_again}
use Rattle.pawk_words.proofs.read.read_word.Goals as goal

pub returns-clause-again : goal.returns-clause-again
returns-clause-again c w g rest b = reads_again c.args.bytes.now c.read_front.result c.read_front.ensures w g rest b
