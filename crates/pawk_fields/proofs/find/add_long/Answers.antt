use Rattle.pawk_fields.proofs.WordBits.{long_on, long_word, one_added}
use Rattle.pawk_fields.proofs.find.add_long.Goals as goal

pub returns-clause-same : goal.returns-clause-same
returns-clause-same c =
    one_added _ _ (c.args.place.now, c.long_end-end.result) _ _ c.in_ok-push.ensures.items (long_word c.args.text.now c.args.place.now c.long_end-end.result c.requires.some c.requires.none c.long_end-end.ensures)

pub returns-clause-on : goal.returns-clause-on
returns-clause-on c = long_on c.args.text.now c.args.place.now c.long_end-end.result c.requires.some c.requires.none c.long_end-end.ensures
