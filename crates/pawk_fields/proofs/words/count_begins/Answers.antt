use Rattle.std.proofs.Common.{◌-◌, arith}
use Rattle.std.proofs.lemmas.Simd.{length-chunk}
use lib.Lanes.{chunk}
use Rattle.pawk_fields.proofs.WordLanes.{begins_bound, lanes_tell}
use Rattle.pawk_fields.proofs.words.count_begins.Goals as goal

pub returns-clause-value : goal.returns-clause-value
returns-clause-value c =
    let s = c.args.text.now in
    let place = c.args.place in
    lanes_tell (chunk (place - 1) 16 s) (chunk place 16 s) (length-chunk (place - 1) 16 s (omega (arith, c.requires.behind, c.requires.room))) (length-chunk place 16 s c.requires.room)

pub returns-clause-bound : goal.returns-clause-bound
returns-clause-bound c =
    let s = c.args.text.now in
    let place = c.args.place in
    let value = returns-clause-value c in
    let most = begins_bound (chunk (place - 1) 16 s) (chunk place 16 s) in
    let long = length-chunk place 16 s c.requires.room in
    omega (arith, value, most, long)
