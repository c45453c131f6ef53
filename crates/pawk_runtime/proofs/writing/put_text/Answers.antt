use Rattle.std.proofs.Common.{◌<◌, arith, rules, length, ◌≤◌}
use Rattle.pawk_runtime.proofs.Putting.{put_left, put_none, too_long, short}
use Rattle.pawk_runtime.proofs.writing.put_text.Goals as goal

pub returns-then-count-eq0-clause-outcome : goal.returns-then-count-eq0-clause-outcome
returns-then-count-eq0-clause-outcome g c =
    λ r left. rw (put_none g.W.World.calls _ r c.args.count c.args.text.now _ c.if-count-eq0.true left) (search rules)

pub returns-then-text-gt-LENGTH_LIMIT-clause-outcome : goal.returns-then-text-gt-LENGTH_LIMIT-clause-outcome
returns-then-text-gt-LENGTH_LIMIT-clause-outcome g c =
    λ r left h is.
    let some : 0 < c.args.count = omega arith in
    let long : 16777216 < length c.args.text.now = omega arith in
    rw (put_left g.W.World.calls _ r c.args.count c.args.text.now _ some left, too_long c.args.text.now long) (cc)

pub returns-in_err-write_place-clause-outcome : goal.returns-in_err-write_place-clause-outcome
returns-in_err-write_place-clause-outcome g c =
    λ r left.
    let some : 0 < c.args.count = omega arith in
    let low : length c.args.text.now ≤ 16777216 = omega arith in
    rw (put_left g.W.World.calls _ r c.args.count c.args.text.now _ some left, short c.args.text.now low) (search rules)
