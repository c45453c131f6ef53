use Rattle.std.proofs.Common.{[], ◌+◌, arith}
use Rattle.pawk_window.proofs.CutLemmas.{rest_all, ended_cut, gap_ends, gap_open, gap_none}
use Rattle.pawk_window.proofs.cut.paragraphs_length.Goals as goal

pub returns-in-Some-clause-cut : goal.returns-in-Some-clause-cut
returns-in-Some-clause-cut c =
    let s = c.args.bytes.now in
    let m = c.saturating_sub-start.result in
    ended_cut [] s (m + c.in-Some.place + 2)
    (gap_ends s c.args.known m c.requires.within (omega (arith, c.saturating_sub-start.ensures)) (omega (arith, c.saturating_sub-start.ensures)) c.in-Some.place (rw (rest_all c.saturating_sub-start.result c.args.bytes.now) at c.in-Some.ensures).1)

pub returns-in-Some-clause-open : goal.returns-in-Some-clause-open
returns-in-Some-clause-open c =
    let m = c.saturating_sub-start.result in
    gap_open c.args.bytes.now c.args.known m c.requires.within (omega (arith, c.saturating_sub-start.ensures)) (omega (arith, c.saturating_sub-start.ensures)) c.in-Some.place (rw (rest_all c.saturating_sub-start.result c.args.bytes.now) at c.in-Some.ensures).1 (rw (rest_all c.saturating_sub-start.result c.args.bytes.now) at c.in-Some.ensures).0

pub returns-in-None-clause-open : goal.returns-in-None-clause-open
returns-in-None-clause-open c =
    let m = c.saturating_sub-start.result in
    gap_none c.args.bytes.now c.args.known m c.requires.within (omega (arith, c.saturating_sub-start.ensures)) (omega (arith, c.saturating_sub-start.ensures)) c.requires.open (rw (rest_all c.saturating_sub-start.result c.args.bytes.now) at c.in-None.ensures)
