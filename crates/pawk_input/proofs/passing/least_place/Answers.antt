use Rattle.std.proofs.Common.{arith}
use Rattle.pawk_input.proofs.PassingLemmas.{lacks_more, place_within}
use Rattle.pawk_input.proofs.passing.least_place.Goals as goal

pub loop-word-preserved : goal.loop-word-preserved
loop-word-preserved c =
    let text = c.args.text.now in
    let least = c.loop-word.least in
    let within = c.loop-word.invariant.within in
    let low = place_within text c.word-item.result least within c.find.result c.find.ensures in
    record {
      within = omega (arith, low, c.unwrap_or-least.ensures);
      none = lacks_more text c.word-item.result least within c.args.words.now c.loop-word.word-index c.unwrap_or-least.result c.find.result (omega arith) c.word-item.is c.unwrap_or-least.ensures c.find.ensures c.loop-word.invariant.none;
    }

pub returns-clause-none : goal.returns-clause-none
returns-clause-none c = λ some k d lt. c.loop-word.invariant.none some k d (omega arith)
