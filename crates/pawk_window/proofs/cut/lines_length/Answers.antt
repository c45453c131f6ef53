use Rattle.std.proofs.Common.{[], ◌∷◌, ◌+◌}
use Rattle.pawk_window.proofs.CutLemmas.{rest_all, ended_cut, line_ends, line_open, line_none}
use Rattle.pawk_window.proofs.cut.lines_length.Goals as goal

pub returns-in-Some-clause-cut : goal.returns-in-Some-clause-cut
returns-in-Some-clause-cut c =
    let s = c.args.bytes.now in
    ended_cut (c.args.separator ∷ []) s (c.args.known + c.in-Some.place + 1)
    (line_ends c.args.separator s c.args.known c.requires.within c.in-Some.place (rw (rest_all c.args.known c.args.bytes.now) at c.in-Some.ensures).0.high (rw (rest_all c.args.known c.args.bytes.now) at c.in-Some.ensures).1)

pub returns-in-Some-clause-open : goal.returns-in-Some-clause-open
returns-in-Some-clause-open c =
    line_open c.args.separator c.args.bytes.now c.args.known c.requires.within c.in-Some.place (rw (rest_all c.args.known c.args.bytes.now) at c.in-Some.ensures).0

pub returns-in-None-clause-open : goal.returns-in-None-clause-open
returns-in-None-clause-open c =
    line_none c.args.separator c.args.bytes.now c.args.known c.requires.within c.requires.open (rw (rest_all c.args.known c.args.bytes.now) at c.in-None.ensures)
